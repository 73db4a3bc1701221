-- What became of a call, or of a step of it (document 01, "Message and answer"): nothing is wrong, or it is refused. The Rust panics where a call is
-- refused with 8 to 11.
-- Assumes nothing.
use Rattle.std.specs.Prelude.{Result, Ok, Err}
use Rattle.message.specs.declared.Refusal.{Refusal}

abbrev pub Outcome : Type 0
Outcome = Result (Unit {0}) Refusal

-- what became of a step that has a result
abbrev pub outcome_of : {S : Type 0} → Result S Refusal → Outcome
outcome_of (Ok s) = Ok tt
outcome_of (Err why) = Err why
