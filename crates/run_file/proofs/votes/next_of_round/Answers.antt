use Rattle.std.proofs.Common.{◌≡◌, false, eqb, None, ◌∷◌, ap, subst, map, arith}
use Rattle.std.proofs.lemmas.Bool.Decides.{nat_tests}
use Rattle.run_file.specs.Lines.{line, lines_refusal}
use Rattle.run_file.specs.InCode.{lines_in}
use Rattle.run_file.proofs.Lining.{first_checked, rest_checked, all_later}
use Rattle.run_file.proofs.votes.next_of_round.Goals as goal

pub unreachable-requires : goal.unreachable-requires
unreachable-requires g c =
    let k = g.K.Kind.rules in
    let x = line c.in_ok-bytes.bytes.now in
    let first : lines_refusal k c.args.rounds c.args.round (x ∷ lines_in c.in_ok-bytes.rest) ≡ None = subst (λ pieces. lines_refusal k c.args.rounds c.args.round (map line pieces) ≡ None) c.in_ok-bytes.ensures.pieces c.requires.checked in
    let fine = first_checked k c.args.rounds c.args.round x (lines_in c.in_ok-bytes.rest) first in
    cc (fine, c.in-Err.ensures.refused)

pub returns-in-Ok : goal.returns-in-Ok
returns-in-Ok g c =
    let k = g.K.Kind.rules in
    let x = line c.in_ok-bytes.bytes.now in
    let split = c.in_ok-bytes.ensures in
    let first : lines_refusal k c.args.rounds c.args.round (x ∷ lines_in c.in_ok-bytes.rest) ≡ None = subst (λ pieces. lines_refusal k c.args.rounds c.args.round (map line pieces) ≡ None) split.pieces c.requires.checked in
    let read = c.in-Ok.ensures.read in
    let of_round : x.round ≡ c.args.round = omega (arith, read.round) in
    record {
      is = x;
      line = read;
      first = ap (map line) split.pieces;
      of_round = of_round;
      checked = subst (λ r. lines_refusal k c.args.rounds r (lines_in c.in_ok-bytes.rest) ≡ None) of_round (rest_checked k c.args.rounds c.args.round x (lines_in c.in_ok-bytes.rest) first);
      width = split.width;
      fewer = omega (arith, split.count);
    }

pub returns-in-Ok-2 : goal.returns-in-Ok-2
returns-in-Ok-2 g c =
    let x = line c.in_ok-bytes.bytes.now in
    let read = c.in-Ok.ensures.read.round in
    let other : eqb x.round c.args.round ≡ false = grind (arith, nat_tests) in
    all_later g.K.Kind.rules c.args.rounds c.args.round (lines_in c.args.lines) (lines_in c.in_ok-bytes.rest) x (ap (map line) c.in_ok-bytes.ensures.pieces) c.requires.checked other
