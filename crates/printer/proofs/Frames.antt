-- What a byte is, after nothing, an escape's first byte or arguments so far: one analysis of its frame, for every law about frames.
use Prim.Native.Nat.{ℕ, ◌+◌, ◌*◌, ◌≤◌, ◌<◌}
use mathlib.Core.Path.{◌≡◌, sym, refl}
use mathlib.Core.Bool.{Bool, true, false}
use mathlib.Core.List.{List, [], ◌∷◌, ◌++◌, map}
use Rattle.std.specs.Prelude.{Option, Some, None}
use mathlib.Core.Logic.{◌⊎◌, inl, inr, ⊎_elim}
use native.Mathlib.Omega.{arith}
use lib.Dec.{leb, ltb, eqb}
use lib.ListN.{length, get_or}
use borrow.Author.Tests.{eqb-true, eqb-false, leb-false, leb-true, le-leb, ltb-true, ne_eqb}
use Rattle.printer.specs.Tools.{both, within}
use Rattle.printer.specs.Escapes.{modes, looks, parameters, choices}
use Rattle.printer.specs.Codes.{control_code, one_code, two_code, begun_by, first_code, second_code, selected_number, firsts, seconds, plain_escapes, argument_escapes, other_escapes, image_modes, spelt}
use Rattle.printer.specs.Framing.{is_letter, read_as, controls, escapes, selections, first_of, second_of, selected_of, one_command, two_command, after_two, opened_mode, image_wait, list_opened, first_frame, second_frame, advanced_frame, mode_frame, selected_frame, continued, frame}
use Rattle.printer.specs.Deciding.{reason_of}
use Rattle.printer.specs.Spelling.{among, listed_controls, listed_escapes, listed_image_modes, StandsFor, Unlisted, Begins, Classified}
use Rattle.printer.specs.Types.{Begun, Command, Control, First, Frame, ImageMode, Listing, ListOpening, ListPart, Look, One, Opening, Page, Refused, Second, Silent, Two, Waiting}
use Rattle.printer.proofs.Choices.{pick_elim, either_elim, either_left, either-right, within_fact}
use Rattle.printer.proofs.Listed.{found}

-- reasons are at most 5
pub known : (r : Refused) → reason_of r ≤ 5
known (Refused.Byte b) = omega arith
known (Refused.Escape b) = omega arith
known (Refused.Advanced b) = omega arith
known (Refused.CommandMode n) = omega arith
known (Refused.ImageMode n) = omega arith

-- Two constructors that are equal

abbrev pub Clash : Type 0
Clash = ◌≡◌ {A = ℕ} 0 1

pub clash : Clash → ⊥
clash e = omega arith

-- no byte of a list, and none of an image
abbrev pub NoList : Command → Type 0
NoList c = (k : Listing) (x : ListPart) → c ≡ Command.List k x → Clash

abbrev pub NoImage : Command → Type 0
NoImage c = (m : ImageMode) (k b : ℕ) → c ≡ Command.ImageByte m k b → Clash

-- nothing, or an escape's second byte, is waited for
pub data Resting : Waiting → Type 0 where
  rests : Resting Waiting.Nothing
  after_escape : Resting Waiting.SecondByte

-- the frame of these bytes
pub data Framed (upper : Bool) (l : List ℕ) : Frame → Type 0 where
  -- arguments are waited for
  begins : {w : Begun} → begun_by w ≡ l → Framed upper l (Frame.Waits (Waiting.Arguments w))
  -- a command by itself
  single : {c : Command} {w : Waiting} → spelt c ≡ l → Classified upper c → NoList c → NoImage c → Resting w → Framed upper l (Frame.Whole c w)
  -- one that opens a list, or an image
  opens_list : {o : ListOpening} → spelt (Command.OpenList o) ≡ l → Framed upper l (list_opened o)
  opens_image : {o : Opening} {a b : ℕ} → spelt (Command.OpenImage o a b) ≡ l
      → Framed upper l (Frame.Whole (Command.OpenImage o a b) (image_wait (opened_mode o) (a + 256 * b)))

-- A command of which nothing is said, since it is no single byte

-- neither a letter, a control, refused nor silent
pub record Plain (c : Command) : Type 0 where
  pub letter : (b : ℕ) → c ≡ Command.Letter b → Clash
  pub control : (k : Control) (b : ℕ) → c ≡ Command.Control k b → Clash
  pub refused : (r : Refused) → c ≡ Command.Refused r → Clash
  pub silent : (k : Silent) → c ≡ Command.Silent k → Clash

plain : {c : Command} → ((b : ℕ) → c ≡ Command.Letter b → Clash) → ((k : Control) (b : ℕ) → c ≡ Command.Control k b → Clash)
    → ((r : Refused) → c ≡ Command.Refused r → Clash) → ((k : Silent) → c ≡ Command.Silent k → Clash) → Plain c
plain l k r s = record { letter = l; control = k; refused = r; silent = s }

pub unclassified : (upper : Bool) (c : Command) → Plain c → Classified upper c
unclassified upper c h =
    record {
      letter = λ b z. absurd (clash (h.letter b z));
      control = λ k b z. absurd (clash (h.control k b z));
      refused = λ r z. absurd (clash (h.refused r z));
      silent = λ k z. absurd (clash (h.silent k z));
    }

-- such a command, after which nothing is waited for
alone : (upper : Bool) (l : List ℕ) (c : Command) → spelt c ≡ l → Plain c → NoList c → NoImage c → Framed upper l (Frame.Whole c Waiting.Nothing)
alone upper l c e h n i = single e (unclassified upper c h) n i rests

pub true_false : true ≡ false → ⊥
true_false e = let z : Clash = cc in clash z

-- Single bytes

-- a byte that is no letter
no-letter : (upper : Bool) (b : ℕ) → is_letter upper b ≡ false → (b ≤ 0x1F) ⊎ ((0x7F ≤ b) × (b ≤ 0x9F))
unfolding is_letter
no-letter upper b e = go (leb 0x20 b) refl (either_left (within 0x20 0x7E b) _ e)
  where
    below : b < 0xA0
    below = leb-false _ _ (either_left (leb 0xA0 b) _ (either-right (within 0x20 0x7E b) _ e))

    go : (t : Bool) → leb 0x20 b ≡ t → both t (leb b 0x7E) ≡ false → (b ≤ 0x1F) ⊎ ((0x7F ≤ b) × (b ≤ 0x9F))
    go true k h = let above : 0x7E < b = leb-false _ _ h in let l = below in inr (omega arith)
    go false k h = let under : b < 0x20 = leb-false _ _ k in inl (omega arith)

-- so 80h to 9Fh do not print then
no_upper : (upper : Bool) (b : ℕ) → is_letter upper b ≡ false → 0x80 ≤ b → upper ≡ false
unfolding is_letter
no_upper true b e h =
    let below : b < 0xA0 = leb-false _ _ (either_left (leb 0xA0 b) _ (either-right (within 0x20 0x7E b) _ e)) in
    let w : both (leb 0x80 b) (leb b 0x9F) ≡ false = either-right (leb 0xA0 b) _ (either-right (within 0x20 0x7E b) _ e) in
    rw (le-leb 0x80 b h, le-leb b 0x9F (omega arith)) at w
no_upper false b e h = refl

-- the code that such a byte stands for is what it is read as, or no control's
stands_for : (upper : Bool) (b n : ℕ) → b ≤ 0x9F → StandsFor upper b n → (n ≡ read_as upper b) ⊎ (0x80 ≤ n)
unfolding read_as
stands_for true b n h (inl e) = inl (sym e)
stands_for true b n h (inr e) = inl (absurd (true_false e.1))
stands_for false b n h (inl e) =
    pick_elim (λ (m : ℕ). (n ≡ m) ⊎ (0x80 ≤ n)) (within 0x80 0x9F b)
    (λ w. let k = within_fact 0x80 0x9F b w in inr (omega arith)) (λ _. inl (sym e))
stands_for false b n h (inr e) =
    pick_elim (λ (m : ℕ). (n ≡ m) ⊎ (0x80 ≤ n)) (within 0x80 0x9F b)
    (λ w. let k = e.0 in inl (omega arith)) (λ w. let k = e.0 in absurd (outside 0x80 0x9F b w (omega arith) h))
  where
    outside : (low high m : ℕ) → within low high m ≡ false → low ≤ m → m ≤ high → ⊥
    outside low high m w l u = let z : ◌≡◌ {A = Bool} true false = rw (le-leb low m l, le-leb m high u) at w in true_false z

-- no control's code is from 80h up
high_code : (l : List ℕ) (n : ℕ) → map (λ (m : ℕ). ltb m 0x80) l ≡ map (λ (m : ℕ). true) l → 0x80 ≤ n → among l n ≡ false
unfolding among
high_code [] n t h = refl
high_code (m ∷ l) n t h =
    let k : m < 0x80 = ltb-true m 0x80 (first t) in
    rw (ne_eqb n m (λ e. omega arith)) (high_code l n (others t) h)
  where
    first : {B : Type 0} {x y : B} {xs ys : List B} → x ∷ xs ≡ y ∷ ys → x ≡ y
    first e = cc

    others : {B : Type 0} {x y : B} {xs ys : List B} → x ∷ xs ≡ y ∷ ys → xs ≡ ys
    others e = cc

unlisted-byte : (upper : Bool) (b : ℕ) → is_letter upper b ≡ false → among listed_controls (read_as upper b) ≡ false → Unlisted upper (Refused.Byte b)
unfolding listed_controls
unlisted-byte upper b e k = (
  no-letter upper b e,
  no_upper upper b e,
  λ n s.
      ⊎_elim (λ i. rw i k) (λ h. high_code _ n refl h) (stands_for upper b n (at_most (no-letter upper b e)) s),
)
  where
    at_most : (b ≤ 0x1F) ⊎ ((0x7F ≤ b) × (b ≤ 0x9F)) → b ≤ 0x9F
    at_most (inl h) = omega arith
    at_most (inr h) = h.1

abbrev Letter : Bool → ℕ → Type 0
Letter upper b = (0x20 ≤ b) × (b ≡ 0x7F → ⊥) × (0x80 ≤ b → b ≤ 0x9F → upper ≡ true)

a_letter : (upper : Bool) (b : ℕ) → is_letter upper b ≡ true → Letter upper b
unfolding is_letter
a_letter true b e =
    either_elim (Letter true b) (within 0x20 0x7E b) _ e
    (λ h. let k = within_fact 0x20 0x7E b h in (omega arith, omega arith, λ m n. refl))
    (λ h. either_elim (Letter true b) (leb 0xA0 b) _ h
    (λ k. let l : 0xA0 ≤ b = leb-true _ _ k in (omega arith, omega arith, λ m n. refl))
    (λ k. let l = within_fact 0x80 0x9F b k in (omega arith, omega arith, λ m n. refl)))
a_letter false b e =
    either_elim (Letter false b) (within 0x20 0x7E b) _ e
    (λ h. let k = within_fact 0x20 0x7E b h in (omega arith, omega arith, λ m n. absurd (omega arith)))
    (λ h. either_elim (Letter false b) (leb 0xA0 b) _ h
    (λ k. let l : 0xA0 ≤ b = leb-true _ _ k in (omega arith, omega arith, λ m n. absurd (omega arith)))
    (λ k. absurd (clash cc)))

read_as_lem : (upper : Bool) (b : ℕ) → StandsFor upper b (read_as upper b)
unfolding read_as
read_as_lem true b = inl refl
read_as_lem false b =
    pick_elim (StandsFor false b) (within 0x80 0x9F b)
    (λ e. let k = within_fact 0x80 0x9F b e in inr (omega arith, refl))
    (λ _. inl refl)

letter-classified : (upper : Bool) (b : ℕ) → Letter upper b → Classified upper (Command.Letter b)
letter-classified upper b h =
    record {
      letter = λ n z. let e : b ≡ n = cc in rw e at h;
      control = λ k n z. absurd (clash cc);
      refused = λ r z. absurd (clash cc);
      silent = λ k z. absurd (clash cc);
    }

control-classified : (upper : Bool) (c : Control) (b : ℕ) → StandsFor upper b (control_code c) → Classified upper (Command.Control c b)
control-classified upper c b h =
    record {
      letter = λ n z. absurd (clash cc);
      control = λ k n z. let e : b ≡ n = cc in let i : c ≡ k = cc in rw (e, i) at h;
      refused = λ r z. absurd (clash cc);
      silent = λ k z. absurd (clash cc);
    }

refused-classified : (upper : Bool) (r : Refused) → Unlisted upper r → Classified upper (Command.Refused r)
refused-classified upper r h =
    record {
      letter = λ n z. absurd (clash cc);
      control = λ k n z. absurd (clash cc);
      refused = λ x z. let e : r ≡ x = cc in rw e at h;
      silent = λ k z. absurd (clash cc);
    }

silent_classified : (upper : Bool) (k : Silent) → Begins upper k → Classified upper (Command.Silent k)
silent_classified upper k h =
    record {
      letter = λ n z. absurd (clash cc);
      control = λ x n z. absurd (clash cc);
      refused = λ r z. absurd (clash cc);
      silent = λ x z. let e : k ≡ x = cc in rw e at h;
    }

abbrev is_control : First → Bool
is_control (First.Control c) = true
is_control First.Escape = true
is_control First.Unlisted = false

control_framed : (upper : Bool) (c : Control) (b : ℕ) → StandsFor upper b (control_code c)
    → Framed upper (b ∷ []) (Frame.Whole (Command.Control c b) Waiting.Nothing)
control_framed upper c b s = single refl (control-classified upper c b s) (λ k x z. cc) (λ m i n z. cc) rests

refused_framed : (upper : Bool) (r : Refused) → Unlisted upper r
    → Framed upper (spelt (Command.Refused r)) (Frame.Whole (Command.Refused r) Waiting.Nothing)
refused_framed upper r u = single refl (refused-classified upper r u) (λ k x z. cc) (λ m i n z. cc) rests

first_framed : (upper : Bool) (f : First) (n b : ℕ) → is_control f ≡ true → n ≡ first_code f → StandsFor upper b n
    → Framed upper (b ∷ []) (first_frame f b)
first_framed upper (First.Control c) n b q e s = control_framed upper c b (rw e at s)
first_framed upper First.Escape n b q e s =
    single refl (silent_classified upper (Silent.Escape b) (rw e at s)) (λ k x z. cc) (λ m i n z. cc) after_escape
first_framed upper First.Unlisted n b q e s = absurd (clash cc)

begin_framed : (upper : Bool) (b : ℕ) → is_letter upper b ≡ false → Framed upper (b ∷ []) (first_frame (first_of (read_as upper b)) b)
unfolding controls firsts listed_controls
begin_framed upper b e =
    found (λ (f : First). Framed upper (b ∷ []) (first_frame f b)) is_control first_code firsts First.Unlisted (read_as upper b) refl
    (λ f q k. first_framed upper f (read_as upper b) b q k (read_as_lem upper b))
    (λ k. refused_framed upper (Refused.Byte b) (unlisted-byte upper b e k))

letter_framed : (upper : Bool) (b : ℕ) → is_letter upper b ≡ true → Framed upper (b ∷ []) (Frame.Whole (Command.Letter b) Waiting.Nothing)
letter_framed upper b e = single refl (letter-classified upper b (a_letter upper b e)) (λ k x z. cc) (λ m i n z. cc) rests

-- Escapes

-- an escape's second byte is listed, and no argument of it has come
abbrev is_listed : Second → Bool
is_listed (Second.Control c) = true
is_listed Second.Reset = true
is_listed (Second.Mode c) = true
is_listed (Second.Switch w) = true
is_listed (Second.Begins w) = eqb (length (begun_by w)) 1
is_listed (Second.List t) = true
is_listed Second.Unlisted = false

begun_framed : (upper : Bool) (w : Begun) (b : ℕ) → eqb (length (begun_by w)) 1 ≡ true → b ≡ get_or (begun_by w) 0 0
    → Framed upper (b ∷ []) (Frame.Waits (Waiting.Arguments w))
begun_framed upper w b q e = begins (go (begun_by w) q e)
  where
    go : (l : List ℕ) → eqb (length l) 1 ≡ true → b ≡ get_or l 0 0 → l ≡ b ∷ []
    go [] h k = cc
    go (n ∷ []) h k = rw k
    go (n ∷ m ∷ l) h k = let z : length (n ∷ m ∷ l) ≡ 1 = eqb-true _ _ h in absurd (omega arith)

listed_framed : (upper : Bool) (s : Second) (b : ℕ) → is_listed s ≡ true → b ≡ second_code s → Framed upper (b ∷ []) (second_frame s b)
listed_framed upper (Second.Control c) b q e = control_framed upper c b (inl e)
listed_framed upper Second.Reset b q e =
    alone upper _ Command.Reset (rw e) (plain (λ n z. cc) (λ k n z. cc) (λ r z. cc) (λ k z. cc)) (λ k x z. cc) (λ m i n z. cc)
listed_framed upper (Second.Mode c) b q e =
    alone upper _ (Command.Mode c) (rw e) (plain (λ n z. cc) (λ k n z. cc) (λ r z. cc) (λ k z. cc)) (λ k x z. cc) (λ m i n z. cc)
listed_framed upper (Second.Switch w) b q e =
    alone upper _ (Command.Look (Look.Switch w)) (rw e) (plain (λ n z. cc) (λ k n z. cc) (λ r z. cc) (λ k z. cc)) (λ k x z. cc) (λ m i n z. cc)
listed_framed upper (Second.Begins w) b q e = begun_framed upper w b q e
listed_framed upper (Second.List t) b q e = opens_list {o = ListOpening.Named t} (rw e)
listed_framed upper Second.Unlisted b q e = absurd (clash cc)

second_framed : (upper : Bool) (b : ℕ) → Framed upper (b ∷ []) (second_frame (second_of b) b)
unfolding listed_escapes escapes seconds plain_escapes argument_escapes other_escapes modes looks parameters choices
second_framed upper b =
    found (λ (s : Second). Framed upper (b ∷ []) (second_frame s b)) is_listed second_code seconds Second.Unlisted b refl
    (λ s q e. listed_framed upper s b q e) (λ k. refused_framed upper (Refused.Escape b) k)

-- Arguments

one_framed : (upper : Bool) (c : One) (n : ℕ) → Framed upper (one_code c ∷ n ∷ []) (Frame.Whole (one_command c n) Waiting.Nothing)
one_framed upper (One.Parameter c) n =
    alone upper _ (Command.Parameter c n) refl (plain (λ m z. cc) (λ k m z. cc) (λ r z. cc) (λ k z. cc)) (λ k x z. cc) (λ m i n z. cc)
one_framed upper (One.Choice c) n =
    alone upper _ (Command.Look (Look.Choice c n)) refl (plain (λ m z. cc) (λ k m z. cc) (λ r z. cc) (λ k z. cc)) (λ k x z. cc) (λ m i n z. cc)
one_framed upper One.Skip n =
    alone upper _ (Command.Skip n) refl (plain (λ m z. cc) (λ k m z. cc) (λ r z. cc) (λ k z. cc)) (λ k x z. cc) (λ m i n z. cc)
one_framed upper One.Feed n =
    alone upper _ (Command.Feed n) refl (plain (λ m z. cc) (λ k m z. cc) (λ r z. cc) (λ k z. cc)) (λ k x z. cc) (λ m i n z. cc)
one_framed upper (One.Margin side) n =
    alone upper _ (Command.Margin side n) refl (plain (λ m z. cc) (λ k m z. cc) (λ r z. cc) (λ k z. cc)) (λ k x z. cc) (λ m i n z. cc)
one_framed upper One.Channel n =
    alone upper _ (Command.Channel n) refl (plain (λ m z. cc) (λ k m z. cc) (λ r z. cc) (λ k z. cc)) (λ k x z. cc) (λ m i n z. cc)

two_framed : (upper : Bool) (c : Two) (a b : ℕ)
    → Framed upper (two_code c ∷ a ∷ b ∷ []) (Frame.Whole (two_command c a b) (after_two c (a + 256 * b)))
two_framed upper (Two.Move m) a b =
    alone upper _ (Command.Move m a b) refl (plain (λ n z. cc) (λ k n z. cc) (λ r z. cc) (λ k z. cc)) (λ k x z. cc) (λ u i n z. cc)
two_framed upper (Two.Image d) a b = opens_image {o = Opening.Named d} refl

page_framed : (upper : Bool) (g : Page) → Framed upper (spelt (Command.Page g)) (Frame.Whole (Command.Page g) Waiting.Nothing)
page_framed upper g =
    alone upper _ (Command.Page g) refl (plain (λ n z. cc) (λ k n z. cc) (λ r z. cc) (λ k z. cc)) (λ k x z. cc) (λ m i n z. cc)

silent_framed : (upper : Bool) (k : Silent) (l : List ℕ) → spelt (Command.Silent k) ≡ l → Begins upper k
    → Framed upper l (Frame.Whole (Command.Silent k) Waiting.Nothing)
silent_framed upper k l e h = single e (silent_classified upper k h) (λ t x z. cc) (λ m i n z. cc) rests

advanced_framed : (upper : Bool) (b : ℕ) → Framed upper (begun_by Begun.Advanced ++ (b ∷ [])) (advanced_frame b)
advanced_framed upper b =
    pick_elim (Framed upper (begun_by Begun.Advanced ++ (b ∷ []))) (eqb b 0x61)
    (λ e. begins (rw (eqb-true b 0x61 e)))
    (λ e. pick_elim (Framed upper (begun_by Begun.Advanced ++ (b ∷ []))) (eqb b 0x53)
    (λ f. silent_framed upper Silent.StatusRequest _ (rw (eqb-true b 0x53 f)) tt)
    (λ f. refused_framed upper (Refused.Advanced b) (eqb-false b 0x61 e, eqb-false b 0x53 f)))

mode_framed : (upper : Bool) (n : ℕ) → Framed upper (begun_by Begun.CommandMode ++ (n ∷ [])) (mode_frame n)
mode_framed upper n =
    pick_elim (Framed upper (begun_by Begun.CommandMode ++ (n ∷ []))) (eqb n 0)
    (λ e. silent_framed upper Silent.KeepMode _ (rw (eqb-true n 0 e)) tt)
    (λ e. refused_framed upper (Refused.CommandMode n) (eqb-false n 0 e))

-- the mode of ESC *
abbrev is_mode : Option ImageMode → Bool
is_mode (Some m) = true
is_mode None = false

selected_framed : (upper : Bool) (s : Option ImageMode) (b : ℕ) → is_mode s ≡ true → b ≡ selected_number s
    → Framed upper (begun_by Begun.SelectMode ++ (b ∷ [])) (selected_frame s b)
selected_framed upper (Some m) b q e = begins {w = Begun.ColumnsLow m} (rw e)
selected_framed upper None b q e = absurd (clash cc)

select_framed : (upper : Bool) (b : ℕ) → Framed upper (begun_by Begun.SelectMode ++ (b ∷ [])) (selected_frame (selected_of b) b)
unfolding selections image_modes listed_image_modes
select_framed upper b =
    found (λ (s : Option ImageMode). Framed upper (begun_by Begun.SelectMode ++ (b ∷ [])) (selected_frame s b)) is_mode selected_number image_modes None b refl
    (λ s q e. selected_framed upper s b q e) (λ k. refused_framed upper (Refused.ImageMode b) k)

argument_framed : (upper : Bool) (w : Begun) (b : ℕ) → Framed upper (begun_by w ++ (b ∷ [])) (continued w b)
argument_framed upper (Begun.One c) b = one_framed upper c b
argument_framed upper Begun.PageLength b =
    pick_elim (Framed upper (begun_by Begun.PageLength ++ (b ∷ []))) (eqb b 0)
    (λ e. begins (rw (eqb-true b 0 e))) (λ _. page_framed upper (Page.Lines b))
argument_framed upper Begun.PageInches b = page_framed upper (Page.Inches b)
argument_framed upper Begun.Advanced b = advanced_framed upper b
argument_framed upper Begun.CommandMode b = mode_framed upper b
argument_framed upper (Begun.FirstOf c) b = begins refl
argument_framed upper (Begun.SecondOf c a) b = two_framed upper c a b
argument_framed upper Begun.SelectMode b = select_framed upper b
argument_framed upper (Begun.ColumnsLow m) b = begins refl
argument_framed upper (Begun.ColumnsHigh m a) b = opens_image {o = Opening.Selected m} refl
argument_framed upper Begun.ListChannel b = opens_list {o = ListOpening.Channel b} refl

-- A byte after nothing, after an escape's first byte, and an argument

pub framed_first : (upper : Bool) (b : ℕ) → Framed upper (b ∷ []) (frame upper Waiting.Nothing b)
unfolding frame
framed_first upper b = pick_elim (Framed upper (b ∷ [])) (is_letter upper b) (letter_framed upper b) (begin_framed upper b)

pub framed_second : (upper : Bool) (b : ℕ) → Framed upper (b ∷ []) (frame upper Waiting.SecondByte b)
unfolding frame
framed_second upper b = second_framed upper b

pub framed_argument : (upper : Bool) (w : Begun) (b : ℕ) → Framed upper (begun_by w ++ (b ∷ [])) (frame upper (Waiting.Arguments w) b)
unfolding frame
framed_argument upper w b = argument_framed upper w b

-- Bytes of lists and images: of them nothing is said

pub open_list_classified : (upper : Bool) (o : ListOpening) → Classified upper (Command.OpenList o)
open_list_classified upper o = unclassified upper _ (plain (λ n z. cc) (λ k n z. cc) (λ r z. cc) (λ k z. cc))

pub list-classified : (upper : Bool) (k : Listing) (part : ListPart) → Classified upper (Command.List k part)
list-classified upper k part = unclassified upper _ (plain (λ n z. cc) (λ k n z. cc) (λ r z. cc) (λ k z. cc))

pub open_classified : (upper : Bool) (o : Opening) (a b : ℕ) → Classified upper (Command.OpenImage o a b)
open_classified upper o a b = unclassified upper _ (plain (λ n z. cc) (λ k n z. cc) (λ r z. cc) (λ k z. cc))

pub image-classified : (upper : Bool) (m : ImageMode) (k b : ℕ) → Classified upper (Command.ImageByte m k b)
image-classified upper m k b = unclassified upper _ (plain (λ n z. cc) (λ k n z. cc) (λ r z. cc) (λ k z. cc))
