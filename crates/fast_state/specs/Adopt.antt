-- Which proposal an EPaxos leader adopts (the Rust's epaxos_try_adopt; document 01, "Round state"). The Rust breaks ties by hash order; ours
-- takes the lowest proposer.
-- Assumes nothing.
use Rattle.std.specs.Prelude.{Bool, cond, ◌&&◌, ℕ, zero, suc, List, eqb, ltb, Option, None, Some, Result, Ok, Err}
use Rattle.message.specs.declared.Refusal.{Refusal}
use Rattle.basics.specs.sets.Sets.{contains, size}
use Rattle.basics.specs.tables.Tables.{look_up}
use Rattle.message.specs.declared.Refusal.TheVariants.{Panic}
use Rattle.fast_state.specs.declared.Best.{Best}
use Rattle.fast_state.specs.declared.TableChange.{TableChange}
use Rattle.fast_state.specs.declared.TableChange.TheVariants.{SameEntries, Recorded, EPaxosScored, SwiftScored}
use Rattle.fast_state.specs.declared.FastAnswers.{FastAnswers}
use Rattle.fast_state.specs.declared.FastChange.{FastChange}
use Rattle.round_state.specs.declared.Member.{Member}

-- a proposer with a higher score than the best so far takes its place
unfoldable pub better : Best → Bool → ℕ → ℕ → Best
better best present score p = cond (present && ltb best.score score) (record { score = score; proposer = Some p }) best

-- the best of the proposers below n, by the score of each: the lowest of those with the highest score
unfoldable pub best_below : ℕ → (ℕ → ℕ) → ℕ → Best
best_below proposers score zero = record { score = 0; proposer = None }
best_below proposers score (suc p) = better (best_below proposers score p) (contains proposers p) (score p) p

-- how one of the best proposers is chosen, by the answers and the score of each
abbrev pub ProposerChoice : Type 0
ProposerChoice = FastAnswers → (ℕ → ℕ) → Option ℕ

-- ours: the lowest of the best proposers
abbrev pub lowest_best : ProposerChoice
lowest_best f score = (best_below f.fast_proposers score 64).proposer

-- best_v: the value of the chosen proposer
unfoldable pub adopted : (ℕ → ℕ) → Option ℕ → Result (Option ℕ) Refusal
adopted value None = Ok None
adopted value (Some p) = Ok (Some (value p))

-- the value and the score of a proposer after a change: those that are changed, and else those in the tables. They are what `to_v_after` and
-- `epaxos_scores_after` store (proofs/Stored.antt).
unfoldable pub value_in : TableChange → List ℕ → ℕ → ℕ
value_in SameEntries table p = look_up table p
value_in (Recorded proposer v) table p = cond (eqb p proposer) v (look_up table p)
value_in (EPaxosScored proposer v score) table p = cond (eqb p proposer) v (look_up table p)
value_in (SwiftScored proposer v score) table p = cond (eqb p proposer) v (look_up table p)

unfoldable pub score_in : TableChange → List ℕ → ℕ → ℕ
score_in SameEntries table p = look_up table p
score_in (Recorded proposer v) table p = look_up table p
score_in (EPaxosScored proposer v score) table p = cond (eqb p proposer) score (look_up table p)
score_in (SwiftScored proposer v score) table p = look_up table p

-- `epaxos_try_adopt` "needs a majority of answers and two proposers"; it asserts that the own proposal is there. The choice among the best
-- proposers is a parameter.
unfoldable pub epaxos_try_adopt : ProposerChoice → Member → FastAnswers → (ℕ → ℕ) → (ℕ → ℕ) → Result (Option ℕ) Refusal
epaxos_try_adopt choose me f value score =
    cond (contains f.fast_proposers me.my_pid)
    (cond (ltb (size f.fast_answer_set) me.quorums.majority) (Ok None)
    (cond (ltb (size f.fast_proposers) 2) (Ok None) (adopted value (choose f score))))
    (Err Panic)

-- epaxos_try_adopt of the state once the change is made
abbrev pub epaxos_try_adopt_after : ProposerChoice → Member → FastChange → List ℕ → List ℕ → Result (Option ℕ) Refusal
epaxos_try_adopt_after choose me change values scores =
    epaxos_try_adopt choose me change.answers (value_in change.entry values) (score_in change.entry scores)
