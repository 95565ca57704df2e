-- The loop over a piece.
use Rattle.std.proofs.Common.{◌+◌, rules, arith, refl}
use Rattle.printer.proofs.Types.{known_bytes}
use Rattle.listing.proofs.Pieces.{going-none, rest, turned, turned-ok, turned-some}
use Rattle.listing.proofs.Progress.show.Goals as goal

pub loop-at-init : goal.loop-at-init
loop-at-init c = going-none _ _

pub returns-in_err-read : goal.returns-in_err-read
returns-in_err-read c =
    let t = turned c.loop-at.invariant c.show_some.ensures in
    record {
      read = c.loop-at.at + (rest c.loop-at.invariant c.show_some.ensures).read;
      counted = record { said = search rules; total = t.total };
      shown = t.shown;
      bytes = known_bytes c.args.input.now (λ i. omega (arith, c.type_inv.input i));
      all = λ e o. search rules;
    }

pub returns-then-read-eq0 : goal.returns-then-read-eq0
returns-then-read-eq0 c =
    let t = turned-ok c.loop-at.invariant c.show_some.ensures c.in_ok-read.was in
    record {
      read = c.loop-at.at + c.in_ok-read.read;
      counted = record { said = omega (arith, c.if-read-eq0.true); total = t.total };
      shown = t.shown;
      bytes = known_bytes c.args.input.now (λ i. omega (arith, c.type_inv.input i));
      all = λ e f.
          let n = turned-some c.loop-at.invariant c.show_some.ensures c.in_ok-read.was e c.loop-at-test.true in
          absurd (omega (arith, c.if-read-eq0.true));
    }

pub loop-at-preserved : goal.loop-at-preserved
loop-at-preserved c = turned-ok c.loop-at.invariant c.show_some.ensures c.in_ok-read.was

pub returns : goal.returns
returns c =
    let g = c.loop-at.invariant in
    record {
      read = c.loop-at.at;
      counted = record { said = refl; total = g.total };
      shown = g.shown;
      bytes = known_bytes c.args.input.now (λ i. omega (arith, c.type_inv.input i));
      all = λ e o. omega (arith, g.shown.within, c.loop-at-test.false);
    }
