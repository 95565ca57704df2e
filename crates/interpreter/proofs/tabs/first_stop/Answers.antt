-- What is found among the stops left, after those passed, is what is found among all.
use Rattle.std.proofs.Common.{◌<◌, ◌^◌, length, take, get_or, sym, ◌∙◌, arith}
use Rattle.std.proofs.lemmas.List.{length-take, take_min, get_or-take}
use Rattle.interpreter.proofs.Searches.{finds, passes, none-found}
use Rattle.interpreter.proofs.tabs.first_stop.Goals as goal

pub returns-in-Some : goal.returns-in-Some
returns-in-Some g c f test h =
    let l = take c.min-held.result c.args.stops.now in
    let k : c.loop-i.i < c.min-held.result = omega (arith, length-take c.min-held.result c.args.stops.now) in
    let i : c.loop-i.i < length l = omega arith in
    let small : get_or l c.loop-i.i 0 < 2 ^ 32 = rw get_or-take (omega (arith, c.type_inv.stops c.loop-i.i)) in
    let r = finds f test l i (c.loop-i.invariant f test h) (sym c.in-Some.is ∙ h _ _ small c.place_of.ensures) in
    rw (c.min-held.ensures, take_min) at r

pub loop-i-preserved : goal.loop-i-preserved
loop-i-preserved g c f test h =
    let l = take c.min-held.result c.args.stops.now in
    let k : c.loop-i.i < c.min-held.result = omega (arith, length-take c.min-held.result c.args.stops.now) in
    let i : c.loop-i.i < length l = omega arith in
    let small : get_or l c.loop-i.i 0 < 2 ^ 32 = rw get_or-take (omega (arith, c.type_inv.stops c.loop-i.i)) in
    passes f test l i (c.loop-i.invariant f test h) (sym c.in_default.is ∙ h _ _ small c.place_of.ensures)

pub returns : goal.returns
returns g c f test h =
    let l = take c.min-held.result c.args.stops.now in
    let r = none-found f test l (omega arith) (c.loop-i.invariant f test h) in
    rw (c.min-held.ensures, take_min) at r
