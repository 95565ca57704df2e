-- The loop that places the input: see SeriesLoop.
use Rattle.std.proofs.Common.{get_or}
use Rattle.registers.specs.Register.{across_at, dots_across_at}
use Rattle.interpreter.proofs.SeriesLoop.{SoFar}
use Rattle.interpreter.proofs.series.Series.place.Given as goal

abbrev pub invariant-loop-b : goal.invariant-loop-b
invariant-loop-b l =
    SoFar l.self.first l.from (get_or l.m dots_across_at 0) (get_or l.m across_at 0) l.self.step.0 l.self.bytes l.self.part l.input l.initial.out l.out l.spot l.b-index l.at
