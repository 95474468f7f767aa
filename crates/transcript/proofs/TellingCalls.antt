-- The lines of one call more.
use Rattle.std.proofs.Common.{◌≡◌, ℕ, ◌+◌, ◌≤◌, List, [], ◌∷◌, ◌++◌, Option, refl, sym, ap, ◌∙◌, arith, append_assoc, append-nil}
use Rattle.std.specs.Option.{unwrap_or}
use Rattle.protocol.specs.Machine as machine
use Rattle.protocol.specs.Transcripts.{Transcript, Entry, closes_in}
use Rattle.transcript.specs.Told.{opened_first, TellsCall, TellsCalls}

abbrev pub opened_after : Option ℕ → Transcript → Option ℕ
opened_after opened [] = opened
opened_after opened (e ∷ log) = opened_after (opened_first opened e) log

abbrev pub closed_after : ℕ → Transcript → ℕ
closed_after closed [] = closed
closed_after closed (e ∷ log) = closed_after (closed + closes_in e.call e.answer) log

pub opened_more : (opened : Option ℕ) (log : Transcript) (e : Entry) → opened_after opened (log ++ e ∷ []) ≡ opened_first (opened_after opened log) e
opened_more opened [] e = refl
opened_more opened (d ∷ log) e = opened_more (opened_first opened d) log e

pub closed_more : (closed : ℕ) (log : Transcript) (e : Entry) → closed_after closed (log ++ e ∷ []) ≡ closed_after closed log + closes_in e.call e.answer
closed_more closed [] e = refl
closed_more closed (d ∷ log) e = closed_more (closed + closes_in d.call d.answer) log e

pub tells_more : (opened : Option ℕ) (closed : ℕ) (log : Transcript) (e : Entry) (text line : List ℕ) → TellsCalls opened closed log text
    → TellsCall (unwrap_or (opened_after opened log) 0) (closed_after closed log) e line → TellsCalls opened closed (log ++ e ∷ []) (text ++ line)
tells_more opened closed [] e text line h k = (line, [], ap (λ t. t ++ line) h ∙ sym (append-nil line), k, refl)
tells_more opened closed (d ∷ log) e text line (first, rest, is, told, more) k =
    (first, rest ++ line, ap (λ t. t ++ line) is ∙ append_assoc first rest line, told, tells_more (opened_first opened d) (closed + closes_in d.call d.answer) log e rest line more k)

pub closes_once : (call : machine.Call) (answer : machine.Answer) → closes_in call answer ≤ 1
closes_once (machine.Open n t proposals initial) answer = omega arith
closes_once (machine.Seat set) answer = omega arith
closes_once (machine.Forge j i k cell) answer = omega arith
closes_once machine.Close machine.Done = omega arith
closes_once machine.Close (machine.Decided cell) = omega arith
closes_once machine.Close (machine.Refused why) = omega arith
closes_once (machine.Decision i) answer = omega arith
