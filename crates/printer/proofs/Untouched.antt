-- A channel that no event sets is as it was, over every input.
use Prim.Native.Nat.{ℕ, ◌+◌, ◌<◌}
use mathlib.Core.Path.{◌≡◌, refl, ◌∙◌}
use mathlib.Core.List.{List, [], ◌∷◌}
use native.Mathlib.Omega.{arith}
use lib.ListN.{length}
use lib.Seq.{get_or-set_other}
use Rattle.printer.specs.Tools.{Each, Bytes}
use Rattle.printer.specs.Performing.{Event, done, passed, inside, automatic, with_channel, perform, perform_all}
use Rattle.printer.specs.Steps.{frame_at, events_in, step_events, step_of, state_after, events_over}
use Rattle.printer.specs.Accepted.{Ours}
use Rattle.printer.specs.Vertical.{SameChannel, Spares}
use Rattle.printer.specs.Types.{Channels, Command, Listing, ListPart, Printer, TabStops, Target}
use Rattle.printer.proofs.Choices.{each_first, each_rest}
use Rattle.printer.proofs.ChannelLaws.{other-channels}
use Rattle.printer.proofs.Legal.{Done, Legal, LegalAll}
use Rattle.printer.proofs.Keeping.{Bounded, keep}
use Rattle.printer.proofs.KeepingSteps.{bounded, sound, step_ours}

same : {k : ℕ} {c : Channels} → SameChannel k c c
same = record { count = refl; stops = refl }

then : {k : ℕ} {a b c : Channels} → SameChannel k a b → SameChannel k b c → SameChannel k a c
then h j = record { count = j.count ∙ h.count; stops = j.stops ∙ h.stops }

-- one set leaves the others
pub spared : (c : Channels) (m k : ℕ) (l : TabStops) → length c.stops ≡ 128 → length l.stops ≡ 32 → m < 8 → (k ≡ m → ⊥)
    → SameChannel k c (with_channel c m l)
spared c m k l d s h n =
    record { count = get_or-set_other c.counts m k (l.count + 1) 0 n; stops = other-channels c m l d s h k n }

done_spares : (k : ℕ) (p : Printer) (c : Command) (n : ℕ) → Done p c n → Bounded p → Spares k (done c n)
    → SameChannel k p.stops.channels (perform p (done c n)).stops.channels
done_spares k p (Command.Letter b) n h f v = same
done_spares k p (Command.Control c b) n h f v = same
done_spares k p (Command.Refused r) n h f v = same
done_spares k p (Command.Silent c) n h f v = same
done_spares k p Command.Reset n h f v = absurd (v.no_reset n refl)
done_spares k p (Command.Mode c) n h f v = same
done_spares k p (Command.Parameter c a) n h f v = same
done_spares k p (Command.Look c) n h f v = same
done_spares k p (Command.Skip a) n h f v = same
done_spares k p (Command.Feed a) n h f v = same
done_spares k p (Command.Margin side a) n h f v = same
done_spares k p (Command.Page g) n h f v = same
done_spares k p (Command.Move m a b) n h f v = same
done_spares k p (Command.OpenImage o a b) n h f v = same
done_spares k p (Command.ImageByte m i b) n h f v = same
done_spares k p (Command.Channel a) n h f v = record { count = refl; stops = refl }
done_spares k p (Command.OpenList o) n h f v = same
done_spares k p (Command.List (Listing.Sets j) (ListPart.Byte b)) n h f v = same
done_spares k p (Command.List (Listing.Sets Target.Columns) (ListPart.End b)) n h f v = same
done_spares k p (Command.List (Listing.Sets (Target.Channel m)) (ListPart.End b)) n h f v =
    let y = f.stops.typed in
    let e = h.given.end (Target.Channel m) b refl in
    spared p.stops.channels m k p.stops.gathered y.channels y.gathered (omega arith) (λ i. v.no_end b n (rw i))
done_spares k p (Command.List Listing.Dropped part) n h f v = same

event_spares : (k : ℕ) (p : Printer) (e : Event) → Legal p e → Bounded p → Spares k e
    → SameChannel k p.stops.channels (perform p e).stops.channels
event_spares k p (done c n) h f v = done_spares k p c n h f v
event_spares k p (passed c reason) h f v = same
event_spares k p (inside c n) h f v = same
event_spares k p (automatic n) h f v = same

events_spare : (k : ℕ) (p : Printer) (l : List Event) → LegalAll p l → Bounded p → Each (Spares k) l
    → SameChannel k p.stops.channels (perform_all p l).stops.channels
unfolding perform_all
events_spare k p [] h f v = same
events_spare k p (e ∷ l) h f v =
    then (event_spares k p e h.0 f v.0) (events_spare k (perform p e) l h.1 (keep p e h.0 f) v.1)

pub bytes_spare : (k : ℕ) (p : Printer) (l : List ℕ) → Bytes l → Ours p → Each (Spares k) (events_over p l)
    → SameChannel k p.stops.channels (state_after p l).stops.channels
unfolding state_after events_over step_of step_events
bytes_spare k p [] m o v = same
bytes_spare k p (b ∷ l) m o v =
    let e = events_in p (frame_at p b) in
    let s = sound p b m.0 o.typed o.accepted in
    then (events_spare k p e s.legal (bounded p o.typed o.accepted) (each_first (Spares k) e (events_over (step_of p b) l) v))
    (bytes_spare k (step_of p b) l m.1 (step_ours p b m.0 o) (each_rest (Spares k) e (events_over (step_of p b) l) v))
