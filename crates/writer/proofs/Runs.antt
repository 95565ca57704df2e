-- Bytes read by the rules and reckoned, one part after the other.
use Prim.Native.Nat.{ℕ}
use mathlib.Core.Path.{◌≡◌, refl, ◌∙◌}
use mathlib.Core.Bool.{Bool, true, false}
use mathlib.Core.List.{List, [], ◌∷◌, ◌++◌, map, append_assoc, map-append}
use Rattle.printer.specs.Tools.{pick, Each}
use Rattle.printer.specs.Performing.{Event, perform_all, records_all}
use Rattle.printer.specs.Deciding.{decide}
use Rattle.printer.specs.Steps.{wait_for, step_of, state_after, records_over, events_over}
use Rattle.printer.specs.Reckoning.{Reckoning, reckon_next, reckon_all, Occurrence, event, printed}
use Rattle.printer.specs.declared.commands.Command.{Command}
use Rattle.printer.specs.declared.commands.Waiting.{Waiting}
use Rattle.printer.specs.declared.records.Record.{Record}
use Rattle.printer.specs.declared.state.Printer.{Printer}
use Rattle.printer.proofs.Choices.{each_append}
use Rattle.printer.proofs.Cuts.{state-append, records-append}
use Rattle.whole.specs.Whole.{Does}
use Rattle.writer.specs.Reading.{prints, texts_in, TextOrFeed, Placed, placed_as}

abbrev pub happens : Printer → List ℕ → List Occurrence
happens p bytes = map event (events_over p bytes)

-- from a printer and a reckoning: what is left of both, and what is printed
pub record Run (p : Printer) (q : Reckoning) (bytes : List ℕ) (p' : Printer) (q' : Reckoning) (t : List Record) (s : List Placed) : Type 0 where
  pub state : state_after p bytes ≡ p'
  pub texts : texts_in (records_over p bytes) ≡ t
  pub nothing_else : Each TextOrFeed (records_over p bytes)
  pub reckoned : reckon_all q (happens p bytes) ≡ q'
  pub places : map placed_as (printed q (happens p bytes)) ≡ s

-- Parts

pub events_append : (p : Printer) (x y : List ℕ) → events_over p (x ++ y) ≡ events_over p x ++ events_over (state_after p x) y
unfolding events_over state_after
events_append p [] y = refl
events_append p (b ∷ x) y = rw (events_append (step_of p b) x y, append_assoc)

reckon-append : (q : Reckoning) (a b : List Occurrence) → reckon_all q (a ++ b) ≡ reckon_all (reckon_all q a) b
unfolding reckon_all
reckon-append q [] b = refl
reckon-append q (o ∷ a) b = reckon-append (reckon_next q o) a b

printed-append : (q : Reckoning) (a b : List Occurrence) → printed q (a ++ b) ≡ printed q a ++ printed (reckon_all q a) b
unfolding printed reckon_all
printed-append q [] b = refl
printed-append q (o ∷ a) b = rw (printed-append (reckon_next q o) a b, append_assoc)

pick-append : (x : Record) (t : Bool) (a b : List Record) → pick t (x ∷ (a ++ b)) (a ++ b) ≡ pick t (x ∷ a) a ++ b
pick-append x true a b = refl
pick-append x false a b = refl

texts_append : (a b : List Record) → texts_in (a ++ b) ≡ texts_in a ++ texts_in b
unfolding texts_in
texts_append [] b = refl
texts_append (x ∷ a) b = rw (texts_append a b) (pick-append x (prints x.mark) (texts_in a) (texts_in b))

pub nothing : (p : Printer) (q : Reckoning) → Run p q [] p q [] []
unfolding state_after records_over events_over texts_in reckon_all printed
nothing p q = record { state = refl; texts = refl; nothing_else = tt; reckoned = refl; places = refl }

pub then : {p p' p'' : Printer} {q q' q'' : Reckoning} (a b : List ℕ) {t t' : List Record} {s s' : List Placed} → Run p q a p' q' t s → Run p' q' b p'' q'' t' s'
    → Run p q (a ++ b) p'' q'' (t ++ t') (s ++ s')
then {p} {p'} {p''} {q} {q'} {q''} a b {t} {t'} {s} {s'} v w =
    let o : happens p (a ++ b) ≡ happens p a ++ happens p' b =
    rw (events_append p a b, v.state) (map-append event (events_over p a) (events_over p' b)) in
    record {
      state = state-append p a b ∙ rw v.state w.state;
      texts = rw (records-append p a b, v.state, texts_append) (rw (v.texts, w.texts));
      nothing_else = rw (records-append p a b, v.state) (each_append TextOrFeed (records_over p a) (records_over p' b) v.nothing_else w.nothing_else);
      reckoned = rw (o, reckon-append, v.reckoned) w.reckoned;
      places = rw (o, printed-append, map-append, v.places, v.reckoned, w.places);
    }

-- A command, whose decision is known

module _ (p : Printer) (q : Reckoning) (bytes : List ℕ) (begun : List Event) (c : Command) (v : Waiting) (es : List Event)
    (h : Does p bytes begun c v) (e : decide p c ≡ es) where
  pub run_of : {p' : Printer} {q' : Reckoning} {t : List Record} {s : List Placed} → wait_for (perform_all p es) v ≡ p'
      → texts_in (records_all p es) ≡ t → Each TextOrFeed (records_all p es) → reckon_all q (map event (begun ++ es)) ≡ q'
      → map placed_as (printed q (map event (begun ++ es))) ≡ s → Run p q bytes p' q' t s
  run_of a b d f g =
      record {
        state = h.state ∙ rw e a;
        texts = rw (h.records, e) b;
        nothing_else = rw (h.records, e) d;
        reckoned = rw (h.events, e) f;
        places = rw (h.events, e) g;
      }
