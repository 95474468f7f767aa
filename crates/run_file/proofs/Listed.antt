-- The lines of a listing, one by one.
use Rattle.std.proofs.Common.{◌≡◌, ℕ, suc, refl, sym, ap, ◌∙◌, [], ◌++◌, length, take, arith}
use Rattle.std.proofs.lemmas.List.{append-nil, length-take, take_all}
use Rattle.values.specs.declared.buffers.Buffer.{Buffer}
use Rattle.values.specs.Added.{Puts}
use Rattle.values.specs.declared.kinds.Kind.{Ghosts}
use Rattle.models.specs.Laws.{Meaning}
use Rattle.protocol.specs.Machine.{Decision, Answer}
use Rattle.run.specs.declared.run.Run.{Run}
use Rattle.run.specs.Runs.{setting, state, Performs}
use Rattle.run_file.specs.Texts.{controller_line, controller_lines}

-- one line more
pub lines_more : {V R : Type 0} {kind : Ghosts V R} (m : Meaning) (run : Run V R kind) (i next : ℕ) (answer : Answer) → next ≡ suc i → Performs m (Decision i) answer run run
    → controller_lines (setting run) m (state run) i ++ controller_line i answer ≡ controller_lines (setting run) m (state run) next
lines_more m run i next answer is p =
    ap (λ answer. controller_lines (setting run) m (state run) i ++ controller_line i answer) (ap (λ q. q.1) p.stepped) ∙ ap (controller_lines (setting run) m (state run)) (sym is)

-- nothing is added
pub puts_none : (a : Buffer) → Puts a [] a
puts_none a = record {
  named = refl;
  added = record {
    room = refl;
    text = sym (ap (take (length a.room.now)) (append-nil (take a.len a.room.now)) ∙ take_all (length a.room.now) (take a.len a.room.now) (omega (arith, length-take a.len a.room.now)));
    rest = refl;
    grows = omega arith;
  };
}
