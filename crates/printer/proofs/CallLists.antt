-- Demand 3, over every list of calls with what came back that begins with a start.
use Prim.Native.Nat.{ℕ, zero, suc, ◌*◌, ◌-◌, ◌≤◌}
use mathlib.Core.Path.{◌≡◌, refl}
use mathlib.Core.Bool.{Bool, true, false}
use mathlib.Core.List.{List, [], ◌∷◌, ◌++◌}
use native.Mathlib.Omega.{arith}
use lib.Dec.{eqb}
use lib.ListN.{length, replicate}
use Rattle.printer.specs.Tools.{pick, Each, Bytes}
use Rattle.printer.specs.Units.{narrowest_paper, widest_paper}
use Rattle.printer.specs.Records.{record_size, encoded_all}
use Rattle.printer.specs.Decoding.{FitsBytes}
use Rattle.printer.specs.Steps.{records_over, step_of, step_records}
use Rattle.printer.specs.PowerOn.{power_on}
use Rattle.printer.specs.Calls.{is_full, number_of, setup, setup_of, started_with, usable, plain_start, start_of, Run, run_of, call_of, StartCall, ReadCall, bytes_of}
use Rattle.printer.specs.Accepted.{Ours}
use Rattle.printer.specs.Promises.{ReadingPromise}
use Rattle.printer.specs.InForce.{Opened, none_opened}
use Rattle.printer.specs.Reckoning.{origin, begun, Axis, printed}
use Rattle.printer.specs.Shown.{written}
use Rattle.printer.specs.Demand3.{Call, started, read, Chain, rules_after, occurrences, OwnCall, Own, NotFour, written_by, joined, Demand3}
use Rattle.printer.specs.Types.{Answer, Started, Record, Setup, StartSettings, Printer, Resolution}
use Rattle.printer.proofs.Choices.{pick_elim, each_append, bytes_take}
use Rattle.printer.proofs.Accepting.{fact_accepted, usable-width}
use Rattle.printer.proofs.KeepingSteps.{steps_ours, power_on_ours}
use Rattle.printer.proofs.Writing.{steps_fit}
use Rattle.printer.proofs.Bytes.{decoded_all-encoded, encoded_all-append}
use Rattle.printer.proofs.Cuts.{gave, kept_promise, call_writes}
use Rattle.printer.proofs.ChannelLaws.{lists_never}
use Rattle.printer.proofs.Following.{from}
use Rattle.printer.proofs.Claims.{ClaimOver, nothing, Keeps, bytes_then}

-- The start

-- a start leaves a state of ours, waiting for nothing, at which the reckoning begins
record Begins (settings : StartSettings) (s : Started) : Type 0 where
  keeps : Keeps s.printer none_opened origin origin
  begins : begun settings ≡ from s.printer none_opened origin origin
  number : number_of s.answer ≤ 3

start_begins : (settings : StartSettings) → Begins settings (start_of settings)
unfolding start_of
start_begins settings = go (usable settings) refl
  where
    keeps : (t : Setup) → narrowest_paper ≤ t.width.0 → t.width.0 ≤ widest_paper → Keeps (power_on t) none_opened origin origin
    keeps t h k = record { ours = power_on_ours t h k; across = refl; down = refl; opened = record { image = λ m k n z. cc; list = λ k b z. cc } }

    -- at either resolution
    taken : (t : Bool) → eqb settings.resolution 203 ≡ t → usable settings ≡ true
        → Begins settings (started_with Answer.InputUsed (setup (pick t Resolution.Dots203 Resolution.Dots300) settings))
    taken true e u = let w = usable-width settings u in record { keeps = keeps _ w.0 w.1; begins = rw (u, e, lists_never (replicate 128 0)); number = omega arith }
    taken false e u = let w = usable-width settings u in record { keeps = keeps _ w.0 w.1; begins = rw (u, e, lists_never (replicate 128 0)); number = omega arith }

    go : (u : Bool) → usable settings ≡ u
        → Begins settings (pick u (started_with Answer.InputUsed (setup_of settings)) (started_with Answer.SettingsRefused (setup_of plain_start)))
    go true u = taken (eqb settings.resolution 203) refl u
    go false u = record { keeps = keeps _ (omega arith) (omega arith); begins = rw (u, lists_never (replicate 128 0)); number = omega arith }

-- Reading calls

run_number : (p : Printer) (input : List ℕ) (allowance room : ℕ) → number_of (run_of p input allowance room).answer ≤ 3
unfolding run_of
run_number p [] allowance room = omega arith
run_number p (b ∷ l) zero room = omega arith
run_number p (b ∷ l) (suc allowance) room =
    pick_elim (λ (v : Run). number_of v.answer ≤ 3) (is_full room) (λ _. omega arith)
    (λ _. run_number (step_of p b) l allowance (room - record_size * length (step_records p b)))

-- a state of ours is not refused
call_number : (p : Printer) (input : List ℕ) (allowance room : ℕ) → Ours p → number_of (call_of p input allowance room).answer ≤ 3
unfolding call_of
call_number p input allowance room o = rw (fact_accepted p o.accepted) (run_number p input allowance room)

own_call : (p : Printer) (c : ReadCall) → c.state ≡ p → ReadingPromise c → OwnCall p (read c)
own_call p c e h = let k = kept_promise c (gave c h) in (e, rw e at k.back, rw e at k.new.state, rw e at h.output)

-- what a call wrote is the bytes of the rules' records
own_written : (p : Printer) (c : ReadCall) → OwnCall p (read c) → written_by (read c) ≡ encoded_all (records_over p (bytes_of c))
own_written p c h = rw (h.1, h.3) (call_writes p c.input c.allowance c.out)

-- Lists of calls

-- the rules' records over a list of calls
records_in : Printer → List Call → List Record
records_in p [] = []
records_in p (started c ∷ l) = records_in (rules_after p (started c)) l
records_in p (read c ∷ l) = records_over p (bytes_of c) ++ records_in (rules_after p (read c)) l

own_list : (p : Printer) (l : List Call) → Chain p l → Own p l
own_list p [] h = tt
own_list p (started c ∷ l) h =
    let e : c.back ≡ start_of c.settings = h.0.gives in
    (e, own_list (rules_after p (started c)) l (rw e at h.1))
own_list p (read c ∷ l) h =
    let o = own_call p c h.0.0 h.0.2 in
    (o, own_list (rules_after p (read c)) l (rw o.2 at h.1))

-- the input of each reading call is bytes
BytesIn : List Call → Type 0
BytesIn [] = Unit
BytesIn (started c ∷ l) = BytesIn l
BytesIn (read c ∷ l) = Bytes c.input × BytesIn l

bytes_in_lem : (p : Printer) (l : List Call) → Chain p l → BytesIn l
unfolding BytesIn
bytes_in_lem p [] h = tt
bytes_in_lem p (started c ∷ l) h = bytes_in_lem c.back.printer l h.1
bytes_in_lem p (read c ∷ l) h = (h.0.1, bytes_in_lem c.left l h.1)

pub start_ours : (settings : StartSettings) → Ours (start_of settings).printer
start_ours settings = (start_begins settings).keeps.ours

not_four : (p : Printer) (l : List Call) → BytesIn l → Own p l → Ours p → Each NotFour l
unfolding BytesIn
not_four p [] m h o = tt
not_four p (started c ∷ l) m h o = (
  rw h.0 (start_begins c.settings).number,
  not_four (rules_after p (started c)) l m h.1 (start_ours c.settings),
)
not_four p (read c ∷ l) m h o = (
  rw h.0.1 (call_number p c.input c.allowance (length c.out) o),
  not_four (rules_after p (read c)) l m.1 h.1 (steps_ours p (bytes_of c) (bytes_take c.back.read c.input m.0) o),
)

joined-records : (p : Printer) (l : List Call) → Own p l → joined l ≡ encoded_all (records_in p l)
unfolding joined records_in encoded_all
joined-records p [] h = refl
joined-records p (started c ∷ l) h = joined-records (rules_after p (started c)) l h.1
joined-records p (read c ∷ l) h =
    rw (own_written p c h.0, joined-records (rules_after p (read c)) l h.1, encoded_all-append (records_over p (bytes_of c)) (records_in (rules_after p (read c)) l))

records_fit : (p : Printer) (l : List Call) → BytesIn l → Ours p → Each FitsBytes (records_in p l)
unfolding records_in BytesIn
records_fit p [] m o = tt
records_fit p (started c ∷ l) m o = records_fit (rules_after p (started c)) l m (start_ours c.settings)
records_fit p (read c ∷ l) m o =
    let b = bytes_take c.back.read c.input m.0 in
    each_append FitsBytes (records_over p (bytes_of c)) (records_in (rules_after p (read c)) l) (steps_fit p (bytes_of c) b o)
    (records_fit (rules_after p (read c)) l m.1 (steps_ours p (bytes_of c) b o))

calls_claim : (p : Printer) (g : Opened) (k j : Axis) (l : List Call) → BytesIn l → Keeps p g k j
    → ClaimOver (from p g k j) (records_in p l) (occurrences p l)
unfolding records_in BytesIn occurrences printed written
calls_claim p g k j [] m h = nothing
calls_claim p g k j (started c ∷ l) m h =
    let b = start_begins c.settings in
    let w = calls_claim (rules_after p (started c)) none_opened origin origin l m b.keeps in
    rw b.begins (record { same = w.same; between = w.between; gives_back = w.gives_back; reckoned = (tt, w.reckoned) })
calls_claim p g k j (read c ∷ l) m h =
    bytes_then p g k j (bytes_of c) (records_in (rules_after p (read c)) l) (occurrences (rules_after p (read c)) l)
    (bytes_take c.back.read c.input m.0) h
    (λ x k' j' t. calls_claim (rules_after p (read c)) x k' j' l m.1 t)

pub demand_3 : (before : Printer) (c : StartCall) (l : List Call) → Chain before (started c ∷ l) → Demand3 before (started c ∷ l)
unfolding records_in BytesIn occurrences printed written
demand_3 p c l h =
    let q : Printer = rules_after p (started c) in
    let b = start_begins c.settings in
    let m = bytes_in_lem p (started c ∷ l) h in
    let o = own_list p (started c ∷ l) h in
    let w = calls_claim q none_opened origin origin l m b.keeps in
    record {
      own = o;
      no_four = (rw o.0 b.number, not_four q l m o.1 b.keeps.ours);
      same = rw (joined-records p (started c ∷ l) o, decoded_all-encoded (records_in q l) (records_fit q l m b.keeps.ours), b.begins) w.same;
      between = rw b.begins w.between;
      gives_back = rw b.begins w.gives_back;
      reckoned = (tt, rw b.begins w.reckoned);
    }
