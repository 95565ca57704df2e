-- The loop over the words: with any that follow, those so far ask for what these ask for of what is left.
use Rattle.command_line.proofs.WordLaws.{Taken}
use Rattle.command_line.proofs.asked.Given as goal

abbrev pub invariant-loop-i : goal.invariant-loop-i
invariant-loop-i g l = Taken g.T.CommandLine.after_word g.T.CommandLine.choice_of g.T.CommandLine.no_words l.asked
