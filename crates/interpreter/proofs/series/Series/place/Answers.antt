-- The loop that places the input: see SeriesLoop.
use Rattle.std.proofs.Common.{◌≡◌, ◌+◌, sym, ◌∙◌, arith}
use Rattle.printer.specs.Records.{record_size}
use Rattle.interpreter.proofs.SeriesLoop.{begun, begins, few, line-so-far, goes_on}
use Rattle.interpreter.proofs.series.Series.place.Goals as goal

pub loop-b-init : goal.loop-b-init
loop-b-init c = begins (begun c.requires c.exact_place.ensures)

pub after-spot-requires : goal.after-spot-requires
after-spot-requires c =
    let r = c.requires in
    let g = c.loop-b.invariant in
    (g.reached.high, few g (begun r c.exact_place.ensures) r.paper.few-dots r.fits)

pub loop-b-preserved : goal.loop-b-preserved
loop-b-preserved c =
    let r = c.requires in
    let wrote = c.write_record.ensures in
    let end : c.write_record.result ≡ c.loop-b.at + record_size = omega (arith, wrote.place) in
    rw c.after-spot.ensures
    (goes_on c.loop-b.invariant (begun r c.exact_place.ensures) r.paper.few-dots r.fits (omega arith) (sym c.prints.ensures ∙ c.if-not-prints.false)
    c.record_at.ensures (rw end at wrote))

pub overflow_cast-m : goal.overflow_cast-m
overflow_cast-m c =
    let r = c.requires in
    record { fits = omega (arith, few c.loop-b.invariant (begun r c.exact_place.ensures) r.paper.few-dots r.fits) }

pub overflow_mul-m : goal.overflow_mul-m
overflow_mul-m c =
    let r = c.requires in
    record { fits = omega (arith, line-so-far c.loop-b.invariant (begun r c.exact_place.ensures) r.paper.few-dots r.fits) }

pub overflow_add-m : goal.overflow_add-m
overflow_add-m c =
    let r = c.requires in
    record { fits = omega (arith, line-so-far c.loop-b.invariant (begun r c.exact_place.ensures) r.paper.few-dots r.fits) }
