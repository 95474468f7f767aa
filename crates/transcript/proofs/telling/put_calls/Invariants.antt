use Rattle.std.proofs.Common.{◌≡◌, ℕ, ◌≤◌, List, ◌++◌, None, length, take, string_bytes}
use Rattle.script.specs.Figures.{numbers_of}
use Rattle.script.specs.Statements.{log_by}
use Rattle.transcript.specs.Told.{TellsCalls}
use Rattle.transcript.proofs.TellingCalls.{opened_after, closed_after}
use Rattle.transcript.proofs.telling.put_calls.Given as goal

abbrev pub invariant-loop-line : goal.invariant-loop-line
invariant-loop-line l =
    let log = log_by numbers_of (take (length l.yielded) l.lines) (take (length l.yielded) l.answers) in
    ((text : List ℕ) × TellsCalls None 0 log text × (string_bytes l.out ≡ string_bytes l.fn.out ++ text))
    × (l.progress.opened ≡ opened_after None log) × (l.progress.closed ≡ closed_after 0 log) × (l.progress.closed ≤ length l.yielded)
