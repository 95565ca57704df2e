-- Tables by codes: what is found has its code, and every control and escape is found by its code.
use Prim.Native.Nat.{ℕ, ◌≤◌}
use mathlib.Core.Path.{◌≡◌, refl}
use mathlib.Core.Bool.{Bool, true, false}
use mathlib.Core.List.{List, [], ◌∷◌, map}
use Rattle.std.specs.Prelude.{Some, None}
use native.Mathlib.Omega.{arith}
use lib.Dec.{leb, eqb}
use borrow.Author.Tests.{eqb-true, leb-true}
use Rattle.printer.specs.Tools.{lookup, coded}
use Rattle.printer.specs.Escapes.{mode_row, parameter_row, switch_row, choice_row, modes, looks, parameters, choices}
use Rattle.printer.specs.Codes.{control_code, one_code, two_code, first_code, second_code, image_mode_number, selected_number, firsts, seconds, plain_escapes, argument_escapes, other_escapes, image_modes}
use Rattle.printer.specs.Framing.{controls, escapes, selections, first_of, second_of, selected_of}
use Rattle.printer.specs.Spelling.{among, listed_controls, listed_escapes, listed_image_modes, EveryListed}
use Rattle.printer.specs.Types.{Begun, Choice, Control, Density, First, ImageMode, Mode, Move, One, Parameter, Pitch, Second, Side, Switch, Tabs, Two}
use Rattle.printer.proofs.Choices.{pick_elim, either_left, either-right}

heads : {B : Type 0} {x y : B} {xs ys : List B} → x ∷ xs ≡ y ∷ ys → x ≡ y
heads h = cc

tails : {B : Type 0} {x y : B} {xs ys : List B} → x ∷ xs ≡ y ∷ ys → xs ≡ ys
tails h = cc

-- what is found in a table by codes: an element of the list, all of which pass a computed test, with this code; or the default, if no element
-- has it
pub found : {A : Type 0} (P : A → Type 0) (test : A → Bool) (f : A → ℕ) (l : List A) (d : A) (b : ℕ) → map test l ≡ map (λ (a : A). true) l
    → ((a : A) → test a ≡ true → b ≡ f a → P a) → (among (map f l) b ≡ false → P d) → P (lookup (coded f l) d b)
unfolding lookup coded among
found P test f [] d b q g h = h refl
found P test f (a ∷ l) d b q g h =
    pick_elim P (eqb b (f a)) (λ e. g a (heads q) (eqb-true b (f a) e))
    (λ e. found P test f l d b (tails q) g (λ k. h (rw e k)))

-- what is not listed is not found
missed : {A : Type 0} (f : A → ℕ) (l : List A) (d : A) (b : ℕ) → among (map f l) b ≡ false → lookup (coded f l) d b ≡ d
unfolding lookup coded among
missed f [] d b e = refl
missed f (a ∷ l) d b e =
    rw (either_left (eqb b (f a)) _ e) (missed f l d b (either-right (eqb b (f a)) _ e))

no-control : (b : ℕ) → among listed_controls b ≡ false → first_of b ≡ First.Unlisted
unfolding controls firsts listed_controls
no-control b e = missed first_code firsts First.Unlisted b e

no-escape : (b : ℕ) → among listed_escapes b ≡ false → second_of b ≡ Second.Unlisted
unfolding escapes seconds plain_escapes argument_escapes other_escapes modes looks parameters choices listed_escapes
no-escape b e = missed second_code seconds Second.Unlisted b e

no-image-mode : (b : ℕ) → among listed_image_modes b ≡ false → selected_of b ≡ None
unfolding selections image_modes listed_image_modes
no-image-mode b e = missed selected_number image_modes None b e

-- every control, escape and mode of ESC * is found by its code

control-listed : (c : Control) → first_of (control_code c) ≡ First.Control c
unfolding lookup coded controls firsts
control-listed Control.CarriageReturn = refl
control-listed Control.LineFeed = refl
control-listed Control.FormFeed = refl
control-listed Control.HorizontalTab = refl
control-listed Control.VerticalTab = refl
control-listed Control.Backspace = refl
control-listed Control.ShiftOut = refl
control-listed Control.ShiftIn = refl
control-listed Control.Dc2 = refl
control-listed Control.Dc4 = refl

mode-listed : (c : Mode) → second_of (mode_row c).code ≡ Second.Mode c
unfolding lookup coded escapes seconds plain_escapes argument_escapes other_escapes modes looks parameters choices
mode-listed Mode.EighthInchLine = refl
mode-listed Mode.SixthInchLine = refl
mode-listed Mode.NoSkip = refl
mode-listed (Mode.Pitch Pitch.Cpi10) = refl
mode-listed (Mode.Pitch Pitch.Cpi12) = refl
mode-listed (Mode.Pitch Pitch.Cpi15) = refl
mode-listed (Mode.UpperPrints true) = refl
mode-listed (Mode.UpperPrints false) = refl

look_listed : (w : Switch) → second_of (switch_row w).code ≡ Second.Switch w
unfolding lookup coded escapes seconds plain_escapes argument_escapes other_escapes modes looks parameters choices
look_listed (Switch.Bold true) = refl
look_listed (Switch.Bold false) = refl
look_listed (Switch.DoubleStrike true) = refl
look_listed (Switch.DoubleStrike false) = refl
look_listed (Switch.Italic true) = refl
look_listed (Switch.Italic false) = refl
look_listed Switch.NoScript = refl

parameter_listed : (c : Parameter) → second_of (parameter_row c).code ≡ Second.Begins (Begun.One (One.Parameter c))
unfolding lookup coded escapes seconds plain_escapes argument_escapes other_escapes modes looks parameters choices
parameter_listed Parameter.Line180ths = refl
parameter_listed Parameter.Line60ths = refl
parameter_listed Parameter.Line360ths = refl
parameter_listed Parameter.Spacing = refl
parameter_listed Parameter.Proportional = refl
parameter_listed Parameter.Quality = refl
parameter_listed Parameter.DoubleWidth = refl
parameter_listed Parameter.Master = refl

choice-listed : (c : Choice) → second_of (choice_row c).code ≡ Second.Begins (Begun.One (One.Choice c))
unfolding lookup coded escapes seconds plain_escapes argument_escapes other_escapes modes looks parameters choices
choice-listed Choice.Script = refl
choice-listed Choice.Underline = refl
choice-listed Choice.DoubleHeight = refl
choice-listed Choice.Outline = refl
choice-listed Choice.CodeTable = refl
choice-listed Choice.Font = refl
choice-listed Choice.Country = refl
choice-listed Choice.Download = refl

one-listed : (c : One) → second_of (one_code c) ≡ Second.Begins (Begun.One c)
unfolding lookup coded escapes seconds plain_escapes argument_escapes other_escapes modes looks parameters choices
one-listed (One.Parameter c) = parameter_listed c
one-listed (One.Choice c) = choice-listed c
one-listed One.Skip = refl
one-listed One.Feed = refl
one-listed (One.Margin Side.Left) = refl
one-listed (One.Margin Side.Right) = refl
one-listed One.Channel = refl

two_listed : (c : Two) → second_of (two_code c) ≡ Second.Begins (Begun.FirstOf c)
unfolding lookup coded escapes seconds plain_escapes argument_escapes other_escapes modes looks parameters choices
two_listed (Two.Move Move.Absolute) = refl
two_listed (Two.Move Move.Relative) = refl
two_listed (Two.Image Density.Single) = refl
two_listed (Two.Image Density.Double) = refl
two_listed (Two.Image Density.DoubleSpeed) = refl
two_listed (Two.Image Density.Quadruple) = refl

list-listed : (t : Tabs) → second_of (second_code (Second.List t)) ≡ Second.List t
unfolding lookup coded escapes seconds plain_escapes argument_escapes other_escapes modes looks parameters choices
list-listed Tabs.Horizontal = refl
list-listed Tabs.Vertical = refl

image-mode-listed : (m : ImageMode) → selected_of (image_mode_number m) ≡ Some m
unfolding lookup coded selections image_modes
image-mode-listed ImageMode.Single = refl
image-mode-listed ImageMode.Double = refl
image-mode-listed ImageMode.DoubleSpeed = refl
image-mode-listed ImageMode.Quadruple = refl
image-mode-listed ImageMode.Crt80 = refl
image-mode-listed ImageMode.Crt90 = refl
image-mode-listed ImageMode.Single24 = refl
image-mode-listed ImageMode.Double24 = refl
image-mode-listed ImageMode.Crt24 = refl
image-mode-listed ImageMode.Triple24 = refl
image-mode-listed ImageMode.Hex24 = refl

pub every_listed : EveryListed
unfolding lookup coded controls firsts escapes seconds plain_escapes argument_escapes other_escapes modes looks parameters choices
every_listed =
    record {
      control = control-listed;
      escape = refl;
      shift_out = refl;
      shift_in = refl;
      mode = mode-listed;
      look = look_listed;
      one = one-listed;
      two = two_listed;
      page = refl;
      advanced = refl;
      select = refl;
      list_channel = refl;
      list = list-listed;
      reset = refl;
      no_control = no-control;
      no_escape = no-escape;
      image_mode = image-mode-listed;
      no_image_mode = no-image-mode;
    }

-- so the codes of escapes are bytes

code_byte : (b : ℕ) → second_code (second_of b) ≤ 255
unfolding escapes seconds plain_escapes argument_escapes other_escapes modes looks parameters choices
code_byte b =
    found (λ (s : Second). second_code s ≤ 255) (λ (s : Second). leb (second_code s) 255) second_code seconds Second.Unlisted b refl
    (λ s q e. leb-true _ _ q) (λ _. omega arith)

pub one_byte : (c : One) → one_code c ≤ 255
one_byte c = rw (every_listed.one c) at (code_byte (one_code c))

pub two_byte : (c : Two) → two_code c ≤ 255
two_byte c = rw (every_listed.two c) at (code_byte (two_code c))
