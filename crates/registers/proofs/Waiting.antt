-- What is waited for as numbers and back, and what its types say of what numbers are read as.
use Prim.Native.Nat.{ℕ, ◌+◌, ◌*◌, ◌%◌, ◌≤◌}
use mathlib.Core.Path.{◌≡◌, refl}
use mathlib.Core.Bool.{false}
use mathlib.Core.List.{List, [], ◌∷◌, ◌++◌, map}
use Rattle.std.specs.Prelude.{Option, Some, None}
use native.Mathlib.Omega.{arith}
use lib.Dec.{eqb}
use denote.Enum.Declared.{tag_of}
use types.Run.{OneOf, miss}
use borrow.Author.Tests.{eqb-true}
use Rattle.printer.specs.Tools.{Bytes, Each, lookup, coded}
use Rattle.printer.specs.Accepted.{WaitingTyped}
use Rattle.printer.specs.Codes.{begun_by, second_code, seconds, plain_escapes, argument_escapes, other_escapes}
use Rattle.printer.specs.Escapes.{modes, looks, parameters, choices}
use Rattle.printer.specs.Framing.{escapes, selected_of, second_frame, continued, frame}
use Rattle.printer.specs.Steps.{next_in}
use Rattle.printer.specs.declared.commands.Begun.{Begun}
use Rattle.printer.specs.declared.commands.Frame.{Frame}
use Rattle.printer.specs.declared.commands.ImageMode.{ImageMode}
use Rattle.printer.specs.declared.commands.Second.{Second}
use Rattle.printer.specs.declared.commands.Listing.{Listing}
use Rattle.printer.specs.declared.commands.Tabs.{Tabs}
use Rattle.printer.specs.declared.commands.Target.{Target}
use Rattle.printer.specs.declared.commands.Waiting.{Waiting}
use Rattle.printer.specs.contracts.commands.Begun.{the_type}
use Rattle.printer.proofs.Choices.{pick_elim, bytes_append}
use Rattle.printer.proofs.Frames.{Framed, begins as framed-begins, single, opens_list, opens_image, rests, after_escape, framed_second, framed_argument}
use Rattle.printer.proofs.Listed.{every_listed}
use Rattle.printer.proofs.Modes.{number-byte}
use Rattle.registers.specs.declared.pending.Pending.{Pending}
use Rattle.registers.specs.State.{pending, pending_bytes, pending_of, begins, waits_in, argued, resumed, listed, imaged_by, kinds, waiting_of, pending_in, ImageTyped}
use Rattle.registers.proofs.Laws.{byte-back}

-- what a second byte begins is found in the rest of the table: the escapes before it begin nothing

abbrev next : Second → ℕ → Waiting
next s b = next_in (second_frame s b)

abbrev found : List Second → ℕ → Second
found l b = lookup (coded second_code l) Second.Unlisted b

-- elements whose codes begin no other in the rest may be left out
left_out : (l rest : List Second) (b : ℕ)
    → map (λ (s : Second). next s (second_code s)) l ≡ map (λ (s : Second). next (found rest (second_code s)) (second_code s)) l
    → next (found (l ++ rest) b) b ≡ next (found rest b) b
unfolding lookup coded
left_out [] rest b h = refl
left_out (s ∷ l) rest b h =
    let first : next s (second_code s) ≡ next (found rest (second_code s)) (second_code s) = cc in
    pick_elim (λ (x : Second). next x b ≡ next (found rest b) b) (eqb b (second_code s))
    (λ e. rw (eqb-true b (second_code s) e) first) (λ _. left_out l rest b cc)

pub begins-found : (b : ℕ) → begins b ≡ next (found (argument_escapes ++ other_escapes) b) b
unfolding lookup coded frame escapes seconds plain_escapes argument_escapes other_escapes modes looks parameters choices
begins-found b = left_out plain_escapes (argument_escapes ++ other_escapes) b refl

-- no other than these two begins anything
pub begins-nothing : (s : Second) (b : ℕ) → ((w : Begun) → s ≡ Second.Begins w → ⊥) → ((t : Tabs) → s ≡ Second.List t → ⊥) → Waiting.Nothing ≡ next s b
begins-nothing (Second.Control c) b h k = refl
begins-nothing Second.Reset b h k = refl
begins-nothing (Second.Mode c) b h k = refl
begins-nothing (Second.Switch w) b h k = refl
begins-nothing (Second.Begins w) b h k = absurd (h w refl)
begins-nothing (Second.List t) b h k = absurd (k t refl)
begins-nothing Second.Unlisted b h k = refl

-- nothing follows the argument of these places, by their numbers among all
abbrev lasts : List ℕ
lasts = 0 ∷ 2 ∷ 4 ∷ 6 ∷ 9 ∷ 10 ∷ []

pub whole : (w : Begun) (a : ℕ) → OneOf lasts (tag_of the_type w) → Waiting.Nothing ≡ argued w a
whole (Begun.One c) a k = refl
whole Begun.PageLength a k = absurd (miss lasts _ tt k)
whole Begun.PageInches a k = refl
whole Begun.Advanced a k = absurd (miss lasts _ tt k)
whole Begun.CommandMode a k = pick_elim (λ (f : Frame). Waiting.Nothing ≡ waits_in f) (eqb a 0) (λ _. refl) (λ _. refl)
whole (Begun.FirstOf c) a k = absurd (miss lasts _ tt k)
whole (Begun.SecondOf c b) a k = refl
whole Begun.SelectMode a k = absurd (miss lasts _ tt k)
whole (Begun.ColumnsLow m) a k = absurd (miss lasts _ tt k)
whole (Begun.ColumnsHigh m b) a k = refl
whole Begun.ListChannel a k = refl

-- reading its numbers gives it back

begun-back : (w : Begun) → waiting_of (pending_bytes (begun_by w)) ≡ Waiting.Arguments w
unfolding lookup kinds frame
begun-back (Begun.One c) = rw (every_listed.one c)
begun-back Begun.PageLength = rw every_listed.page
begun-back Begun.PageInches = rw every_listed.page
begun-back Begun.Advanced = rw every_listed.advanced
begun-back Begun.CommandMode = rw every_listed.advanced
begun-back (Begun.FirstOf c) = rw (every_listed.two c)
begun-back (Begun.SecondOf c a) = rw (every_listed.two c)
begun-back Begun.SelectMode = rw every_listed.select
begun-back (Begun.ColumnsLow m) = rw (every_listed.select, every_listed.image_mode m)
begun-back (Begun.ColumnsHigh m a) = rw (every_listed.select, every_listed.image_mode m)
begun-back Begun.ListChannel = rw every_listed.list_channel

pub waiting-back : (w : Waiting) → waiting_of (pending_of w) ≡ w
unfolding lookup kinds frame
waiting-back Waiting.Nothing = refl
waiting-back Waiting.SecondByte = refl
waiting-back (Waiting.Arguments w) = begun-back w
waiting-back (Waiting.StopList (Listing.Sets Target.Columns) b) = rw (every_listed.list Tabs.Horizontal)
waiting-back (Waiting.StopList (Listing.Sets (Target.Channel m)) b) = rw (every_listed.list Tabs.Vertical)
waiting-back (Waiting.StopList Listing.Dropped b) = refl
waiting-back (Waiting.ImageData m k n) = rw (every_listed.image_mode m)

-- its numbers are such as their types hold

abbrev narrow : Pending → Pending
narrow v = pending v.kind (v.command % 256) (v.argument % 256) (v.mode % 256) (v.part % 256) (v.columns % 65536)

bytes_narrow : (l : List ℕ) → Bytes l → narrow (pending_bytes l) ≡ pending_bytes l
bytes_narrow [] h = refl
bytes_narrow (b ∷ []) h = rw (byte-back h.0)
bytes_narrow (b ∷ a ∷ []) h = rw (byte-back h.0, byte-back h.1.0)
bytes_narrow (b ∷ m ∷ a ∷ l) h = rw (byte-back h.0, byte-back h.1.0, byte-back h.1.1.0)

pub pending-narrow : (w : Waiting) → WaitingTyped w → ImageTyped w → narrow (pending_of w) ≡ pending_of w
pending-narrow Waiting.Nothing h k = refl
pending-narrow Waiting.SecondByte h k = refl
pending-narrow (Waiting.Arguments w) h k = bytes_narrow (begun_by w) h
pending-narrow (Waiting.StopList (Listing.Sets Target.Columns) b) h k = rw (byte-back h)
pending-narrow (Waiting.StopList (Listing.Sets (Target.Channel m)) b) h k = rw (byte-back h, byte-back k)
pending-narrow (Waiting.StopList Listing.Dropped b) h k = rw (byte-back h)
pending-narrow (Waiting.ImageData m i n) h k =
    let e : n % 65536 ≡ n = omega (arith, k.1) in
    rw (e, byte-back (number-byte m), byte-back k.0)

-- what numbers are read as has what its types say

as_bytes : {a l : List ℕ} → a ≡ l → Bytes l → Bytes a
as_bytes e h = rw e h

typed_framed : (l : List ℕ) (f : Frame) → Bytes l → Framed false l f → WaitingTyped (next_in f)
typed_framed l (Frame.Waits w) h (framed-begins e) = as_bytes e h
typed_framed l (Frame.Whole c w) h (single e k n i rests) = tt
typed_framed l (Frame.Whole c w) h (single e k n i after_escape) = tt
typed_framed l (Frame.Whole c w) h (opens_list e) = omega arith
typed_framed l (Frame.Whole c w) h (opens_image {o} {a} {b} e) =
    pick_elim WaitingTyped (eqb (a + 256 * b) 0) (λ _. tt) (λ _. tt)

waits_typed : (f : Frame) → WaitingTyped (next_in f) → WaitingTyped (waits_in f)
waits_typed (Frame.Waits w) t = t
waits_typed (Frame.Whole c w) t = tt

typed-argued : (w : Begun) (a : ℕ) → a ≤ 255 → Bytes (begun_by w) → WaitingTyped (argued w a)
unfolding frame
typed-argued w a h t =
    waits_typed (continued w a) (typed_framed _ _ (bytes_append (begun_by w) (a ∷ []) t (h, tt)) (framed_argument false w a))

typed-resumed : (w : Waiting) (b : ℕ) → b ≤ 255 → WaitingTyped w → WaitingTyped (resumed w b)
typed-resumed Waiting.Nothing b h t = tt
typed-resumed Waiting.SecondByte b h t = tt
typed-resumed (Waiting.Arguments w) b h t = typed-argued w b h t
typed-resumed (Waiting.StopList k before) b h t = tt
typed-resumed (Waiting.ImageData m k n) b h t = tt

typed-listed : (w : Waiting) (c b : ℕ) → b ≤ 255 → WaitingTyped (listed w c b)
typed-listed Waiting.Nothing c b h = tt
typed-listed Waiting.SecondByte c b h = tt
typed-listed (Waiting.Arguments w) c b h = tt
typed-listed (Waiting.StopList (Listing.Sets k) before) c b h = h
typed-listed (Waiting.StopList Listing.Dropped before) c b h = tt
typed-listed (Waiting.ImageData m k n) c b h = tt

-- what a table tells has what each of its entries has
told : (l : List (ℕ × Waiting)) (d : Waiting) (b : ℕ) → WaitingTyped d → Each (λ (e : ℕ × Waiting). WaitingTyped e.1) l
    → WaitingTyped (lookup l d b)
unfolding lookup
told [] d b h k = h
told (e ∷ l) d b h k = pick_elim WaitingTyped (eqb b e.0) (λ _. k.0) (λ _. told l d b h k.1)

typed-imaged : (x : Option ImageMode) (k n : ℕ) → WaitingTyped (imaged_by x k n)
typed-imaged (Some m) k n = tt
typed-imaged None k n = tt

pub waiting-typed : (m : List ℕ) → WaitingTyped (waiting_of (pending_in m))
unfolding kinds frame
waiting-typed m =
    let v = pending_in m in
    let begun = begins v.command in
    let t : WaitingTyped begun = typed_framed _ _ (omega arith, tt) (framed_second false v.command) in
    let after : WaitingTyped (resumed begun v.argument) = typed-resumed begun v.argument (omega arith) t in
    let selected : WaitingTyped (resumed begun v.mode) = typed-resumed begun v.mode (omega arith) t in
    let again : WaitingTyped (resumed (resumed begun v.mode) v.argument) = typed-resumed (resumed begun v.mode) v.argument (omega arith) selected in
    told (kinds begun v) Waiting.Nothing v.kind tt
    (tt, (tt, (t, (after, (typed-listed begun v.mode v.argument (omega arith), (typed-imaged (selected_of v.mode) v.part v.columns, (again, (omega arith, tt))))))))
