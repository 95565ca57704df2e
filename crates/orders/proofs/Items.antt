-- Settings by their items: a list of values, one for each item, and what no item is. A command of an item sets its value.
use Prim.Native.Nat.{ℕ, ◌%◌, ◌<◌}
use mathlib.Core.Path.{◌≡◌, refl, sym, ap, ◌∙◌}
use mathlib.Core.Bool.{Bool, true, false}
use mathlib.Core.List.{List, [], ◌∷◌}
use lib.Dec.{eqb}
use lib.ListN.{length, get_or, set}
use lib.Seq.{get_or-set_same, get_or-set_other}
use native.Mathlib.Omega.{arith}
use borrow.Author.Tests.{eqb-true, eqb-false}
use Rattle.printer.specs.Tools.{pick}
use Rattle.printer.specs.Settings.{width_of, emphasis_of, script_of, face_of, settings_of}
use Rattle.printer.specs.Escapes.{switched_on, parameter_row, look_takes, look_settings}
use Rattle.printer.specs.Codes.{spelt}
use Rattle.printer.specs.declared.commands.Choice.{Choice}
use Rattle.printer.specs.declared.commands.Command.{Command}
use Rattle.printer.specs.declared.commands.Look.{Look}
use Rattle.printer.specs.declared.commands.Parameter.{Parameter}
use Rattle.printer.specs.declared.commands.Switch.{Switch}
use Rattle.printer.specs.declared.settings.Script.{Script}
use Rattle.printer.specs.declared.settings.Settings.{Settings}
use Rattle.orders.specs.Orders.{Setting, look, spacing, row_of, Sent, of_item, Reordered}

-- Items

-- what an item holds
data Value : Type 0 where
  flag : Bool → Value
  number : ℕ → Value
  levels : Script → Value

is_on : Value → Bool
is_on (flag on) = on
is_on (number n) = false
is_on (levels x) = false

count : Value → ℕ
count (flag on) = 0
count (number n) = n
count (levels x) = 0

script : Value → Script
script (flag on) = script_of false false
script (number n) = script_of false false
script (levels x) = x

-- the items' values, in their order
items : Settings → List Value
items s =
    flag s.emphasis.bold ∷ flag s.emphasis.doublestrike ∷ flag s.emphasis.italic ∷ flag s.emphasis.underline ∷
    flag s.face.doubleheight ∷ levels s.script ∷ number s.face.outline ∷ flag s.face.italictable ∷
    number s.face.font ∷ number s.face.country ∷ number s.width.spacing ∷ flag s.face.download ∷ []

at : List Value → ℕ → Value
at l i = get_or l i (flag false)

-- settings with these values, and all else as it is
with : Settings → List Value → Settings
with s l =
    settings_of s.setup
    (width_of s.width.pitch (count (at l 10)) s.width.wide s.width.wideonce s.width.reduced s.width.proportional)
    (emphasis_of (is_on (at l 0)) (is_on (at l 1)) (is_on (at l 2)) (is_on (at l 3)))
    (script (at l 5))
    (face_of (count (at l 8)) (count (at l 9)) (count (at l 6)) (is_on (at l 4)) (is_on (at l 7)) (is_on (at l 11)))
    s.margins s.paper s.draft s.upperprints

-- Commands

abbrev pub command_of : Setting → Command
command_of (look k) = Command.Look k
command_of (spacing n) = Command.Parameter Parameter.Spacing n

abbrev pub taken : Setting → Bool
taken (look k) = look_takes k
taken (spacing n) = (parameter_row Parameter.Spacing).takes n

abbrev pub settings_by : Settings → Setting → Settings
settings_by s (look k) = look_settings s k
settings_by s (spacing n) = (parameter_row Parameter.Spacing).sets s n

-- a command is its row's, and sets the value of its item alone, whatever that was
record Puts (c : Setting) : Type 0 where
  value : Value
  bytes : (row_of c).bytes ≡ spelt (command_of c)
  accepted : (row_of c).accepted ≡ taken c
  item : (s : Settings) → items (settings_by s c) ≡ set (items s) (row_of c).item value
  rest : (s : Settings) (l : List Value) → with (settings_by s c) l ≡ with s l

putting : (c : Setting) (v : Value) → (row_of c).bytes ≡ spelt (command_of c) → (row_of c).accepted ≡ taken c
    → ((s : Settings) → items (settings_by s c) ≡ set (items s) (row_of c).item v)
    → ((s : Settings) (l : List Value) → with (settings_by s c) l ≡ with s l) → Puts c
putting c v b a i r = record { value = v; bytes = b; accepted = a; item = i; rest = r }

puts : (c : Setting) → Puts c
unfolding items with
puts (look (Look.Switch (Switch.Bold on))) = putting (look (Look.Switch (Switch.Bold on))) (flag on) refl refl (λ s. refl) (λ s l. refl)
puts (look (Look.Switch (Switch.DoubleStrike on))) = putting (look (Look.Switch (Switch.DoubleStrike on))) (flag on) refl refl (λ s. refl) (λ s l. refl)
puts (look (Look.Switch (Switch.Italic on))) = putting (look (Look.Switch (Switch.Italic on))) (flag on) refl refl (λ s. refl) (λ s l. refl)
puts (look (Look.Switch Switch.NoScript)) = putting (look (Look.Switch Switch.NoScript)) (levels (script_of false false)) refl refl (λ s. refl) (λ s l. refl)
puts (look (Look.Choice Choice.Script n)) =
    putting (look (Look.Choice Choice.Script n)) (levels (script_of (pick (switched_on n) false true) (switched_on n))) refl refl (λ s. refl) (λ s l. refl)
puts (look (Look.Choice Choice.Underline n)) = putting (look (Look.Choice Choice.Underline n)) (flag (switched_on n)) refl refl (λ s. refl) (λ s l. refl)
puts (look (Look.Choice Choice.DoubleHeight n)) = putting (look (Look.Choice Choice.DoubleHeight n)) (flag (switched_on n)) refl refl (λ s. refl) (λ s l. refl)
puts (look (Look.Choice Choice.Outline n)) = putting (look (Look.Choice Choice.Outline n)) (number n) refl refl (λ s. refl) (λ s l. refl)
puts (look (Look.Choice Choice.CodeTable n)) = putting (look (Look.Choice Choice.CodeTable n)) (flag (eqb n 0)) refl refl (λ s. refl) (λ s l. refl)
puts (look (Look.Choice Choice.Font n)) = putting (look (Look.Choice Choice.Font n)) (number n) refl refl (λ s. refl) (λ s l. refl)
puts (look (Look.Choice Choice.Country n)) = putting (look (Look.Choice Choice.Country n)) (number n) refl refl (λ s. refl) (λ s l. refl)
puts (look (Look.Choice Choice.Download n)) = putting (look (Look.Choice Choice.Download n)) (flag (switched_on n)) refl refl (λ s. refl) (λ s l. refl)
puts (spacing n) = putting (spacing n) (number (n % 128)) refl refl (λ s. refl) (λ s l. refl)

-- settings are what their items hold, and the rest
itself : (s : Settings) → with s (items s) ≡ s
unfolding items with at is_on count script
itself s = refl

-- and nothing of them but the items' values is looked at
same-items : (s : Settings) (x y : List Value) → ((i : ℕ) → i < 12 → at x i ≡ at y i) → with s x ≡ with s y
unfolding with
same-items s x y h =
    rw (
      h 0 (omega arith),
      h 1 (omega arith),
      h 2 (omega arith),
      h 3 (omega arith),
      h 4 (omega arith),
      h 5 (omega arith),
      h 6 (omega arith),
      h 7 (omega arith),
      h 8 (omega arith),
      h 9 (omega arith),
      h 10 (omega arith),
      h 11 (omega arith),
    )

-- Several commands

abbrev pub settings_all : Settings → List Sent → Settings
settings_all s [] = s
settings_all s (x ∷ l) = settings_all (settings_by s x.1) l

-- what an item holds after these commands of it
abbrev value_after : Value → List Setting → Value
value_after v [] = v
value_after v (c ∷ l) = value_after (puts c).value l

twelve : (s : Settings) → length (items s) ≡ 12
unfolding items
twelve s = refl

-- a command's own item, and another
own_item : (s : Settings) (c : Setting) (i : ℕ) → i < 12 → (row_of c).item ≡ i → at (items (settings_by s c)) i ≡ (puts c).value
unfolding at
own_item s c i h e = rw ((puts c).item s, e) (get_or-set_same (items s) i (puts c).value (flag false) (rw (twelve s) h))

other_item : (s : Settings) (c : Setting) (i : ℕ) → ((row_of c).item ≡ i → ⊥) → at (items (settings_by s c)) i ≡ at (items s) i
unfolding at
other_item s c i n =
    rw ((puts c).item s) (get_or-set_other (items s) (row_of c).item i (puts c).value (flag false) (λ k. n (sym k)))

-- each item holds what its own commands have left
item_after : (s : Settings) (l : List Sent) (i : ℕ) → i < 12 → at (items (settings_all s l)) i ≡ value_after (at (items s) i) (of_item i l)
unfolding of_item
item_after s [] i h = refl
item_after s (x ∷ l) i h = item_after (settings_by s x.1) l i h ∙ go (eqb (row_of x.1).item i) refl
  where
    go : (t : Bool) → eqb (row_of x.1).item i ≡ t
        → value_after (at (items (settings_by s x.1)) i) (of_item i l)
        ≡ value_after (at (items s) i) (pick t (x.1 ∷ of_item i l) (of_item i l))
    go true e = rw (own_item s x.1 i h (eqb-true _ _ e))
    go false e = rw (other_item s x.1 i (eqb-false _ _ e))

rest-after : (s : Settings) (l : List Sent) (v : List Value) → with (settings_all s l) v ≡ with s v
rest-after s [] v = refl
rest-after s (x ∷ l) v = rest-after (settings_by s x.1) l v ∙ (puts x.1).rest s v

-- so commands that leave each item the same leave the same settings
same_settings : (s : Settings) (l m : List Sent) → ((v : Value) (i : ℕ) → value_after v (of_item i l) ≡ value_after v (of_item i m))
    → settings_all s l ≡ settings_all s m
same_settings s l m h =
    sym (itself (settings_all s l)) ∙ rest-after s l _
    ∙ same-items s _ _ (λ i k. item_after s l i k ∙ h _ i ∙ sym (item_after s m i k))
    ∙ sym (rest-after s m _) ∙ itself (settings_all s m)

-- The laws

pub reordered_settings : (s : Settings) (l m : List Sent) → Reordered l m → settings_all s l ≡ settings_all s m
reordered_settings s l m r = same_settings s l m (λ v i. ap (value_after v) (r i))

-- one command twice
pub twice_settings : (s : Settings) (a b : ℕ) (c : Setting) → settings_all s ((a, c) ∷ (b, c) ∷ []) ≡ settings_all s ((a, c) ∷ [])
unfolding of_item
twice_settings s a b c = same_settings s ((a, c) ∷ (b, c) ∷ []) ((a, c) ∷ []) (λ v i. go v (eqb (row_of c).item i))
  where
    go : (v : Value) (t : Bool) → value_after v (pick t (c ∷ pick t (c ∷ []) []) (pick t (c ∷ []) [])) ≡ value_after v (pick t (c ∷ []) [])
    go v true = refl
    go v false = refl

-- two of different items, in either order
pub two_items : (x y : Sent) → ((row_of x.1).item ≡ (row_of y.1).item → ⊥) → Reordered (x ∷ y ∷ []) (y ∷ x ∷ [])
unfolding of_item
two_items x y n i = go (eqb (row_of x.1).item i) (eqb (row_of y.1).item i) refl refl
  where
    go : (t u : Bool) → eqb (row_of x.1).item i ≡ t → eqb (row_of y.1).item i ≡ u
        → pick t (x.1 ∷ pick u (y.1 ∷ []) []) (pick u (y.1 ∷ []) []) ≡ pick u (y.1 ∷ pick t (x.1 ∷ []) []) (pick t (x.1 ∷ []) [])
    go true true e f = absurd (n (eqb-true _ _ e ∙ sym (eqb-true _ _ f)))
    go true false e f = refl
    go false true e f = refl
    go false false e f = refl

-- the bytes and the arguments are the rules'
pub row_bytes : (c : Setting) → (row_of c).bytes ≡ spelt (command_of c)
row_bytes c = (puts c).bytes

pub row-accepted : (c : Setting) → (row_of c).accepted ≡ taken c
row-accepted c = (puts c).accepted

-- and what a byte is does not change
pub same_upper : (s : Settings) (c : Setting) → (settings_by s c).upperprints ≡ s.upperprints
unfolding with
same_upper s c =
    ap (λ (t : Settings). t.upperprints) (sym (itself (settings_by s c)) ∙ (puts c).rest s (items (settings_by s c)))
