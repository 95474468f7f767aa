use Rattle.std.proofs.Common.{◌≡◌, map, drop, None}
use Rattle.packing.specs.Packed.{drafted, no_rounds, numbered, room_misfit}
use Rattle.packing.specs.InCode.{drawn}
use Rattle.packing.proofs.drafts.Draft.of.Given as goal

abbrev pub invariant-loop-line : goal.invariant-loop-line
invariant-loop-line l = record {
  room : room_misfit l.kind l.n (drawn l.draft) ≡ None;
  drafted : drafted l.kind l.n l.open_line no_rounds (map numbered l.lines) ≡ drafted l.kind l.n l.last (drawn l.draft) (map numbered (drop l.line-index l.lines));
}
