-- An accept that was taken, by what it is answered with and by whether accepts are counted here.
-- Assumes nothing.
use Rattle.std.specs.Prelude.{Ok, Err}
use mathlib.Core.Path.{◌≡◌, refl}
use mathlib.Core.Bool.{Bool, true, false, cond, not, ◌&&◌, ◌||◌}
use lib.Dec.{eqb}
use Prim.Native.Nat.{ℕ}
use Rattle.message.specs.Modes.{is_swift_paxos}
use Rattle.message.specs.declared.PaxosRound.{PaxosRound}
use Rattle.message.specs.declared.Refusal.TheVariants.{Panic}
use Rattle.steps.specs.Steps.{no_messages, stays, continues}
use Rattle.steps.specs.declared.Asked.{Asked}
use Rattle.steps.specs.declared.Core.{Core}
use Rattle.steps.specs.declared.Heard.{Heard}
use Rattle.classic.specs.accept.Accept.{is_committer, answer_accept, try_commit, answered_delegate, follower, accept_taken, accept_answer, continues_fast, counts_accepts}

by_role : {A B E : Type 0} (counting : A → B) (going : A → B) (staying : A → B) (panic : E) (answer none : A) (leader delegate committer swift : Bool)
    → cond leader (Ok (counting none))
    (cond delegate (Ok (cond committer (cond swift (going answer) (counting answer)) (staying answer))) (cond committer (Ok (counting none)) (Err panic)))
    ≡ cond (not leader && (delegate && (swift && committer))) (Ok (going (cond leader none (cond delegate answer none))))
    (cond (leader || committer) (Ok (counting (cond leader none (cond delegate answer none))))
    (cond delegate (Ok (staying (cond leader none (cond delegate answer none)))) (Err panic)))
by_role f g h p x y true d c s = refl
by_role f g h p x y false true true true = refl
by_role f g h p x y false true true false = refl
by_role f g h p x y false true false true = refl
by_role f g h p x y false true false false = refl
by_role f g h p x y false false true s = refl
by_role f g h p x y false false false s = refl

pub accepted_by_role : (a : Asked) (h : Heard) (round : PaxosRound) (v : ℕ) (core : Core)
    → accept_taken a h round v core
    ≡ cond (continues_fast a h round) (Ok (continues core (accept_answer a h round core)))
    (cond (counts_accepts a h round) (Ok (try_commit a h round v core (accept_answer a h round core)))
    (cond (eqb h.src h.delegate) (Ok (stays core (accept_answer a h round core))) (Err Panic)))
unfolding accept_taken follower answered_delegate accept_answer continues_fast counts_accepts
accepted_by_role a h round v core =
    by_role (try_commit a h round v core) (continues core) (stays core) Panic (answer_accept a round core h.committer) no_messages
    (eqb a.member.my_pid round.leader) (eqb h.src h.delegate) (is_committer a h) (is_swift_paxos a.mode)
