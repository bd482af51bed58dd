-- How many letters are for threads.
use Rattle.std.proofs.Common.{ℕ, ◌+◌, ◌≡◌, ◌==◌, not, cond, Bool, List, ◌∷◌, refl, sym, ap, arith, Some, unwrap_or}
use Rattle.std.specs.Prelude.{count_by}
use Rattle.std.proofs.lemmas.Bool.{eq-eqb}
use Rattle.std.proofs.lemmas.List.Sums.{sum_by-cons}
use Rattle.tn_base.specs.declared.message.Dest.TheVariants as dest
use Rattle.tn_base.specs.declared.message.Letter.{Letter}
use Rattle.tn_base.specs.declared.op.Op.{Op}
use Rattle.tn_base.specs.declared.op.Op.TheVariants as op
use Rattle.tn_letters.specs.Letters.{Takes, host_address, letter}
use Rattle.tn_letters.specs.Machine.{ended_by, sent_by}
use Rattle.tn_letters.specs.State.{BagState, Program}
use Rattle.polite_live.proofs.Keyless.{IsKeyless}

abbrev pub is_for_thread : Letter → Bool
is_for_thread l = not (l.receiver == host_address)

abbrev pub for_threads : List Letter → ℕ
for_threads ls = count_by is_for_thread ls

abbrev pub one : Letter → ℕ
one l = cond (is_for_thread l) 1 0

pub for_threads-cons : (l : Letter) (ls : List Letter) → for_threads (l ∷ ls) ≡ one l + for_threads ls
for_threads-cons l ls = sum_by-cons one l ls

pub host_is_none : (l : Letter) → l.receiver ≡ host_address → one l ≡ 0
host_is_none l e = ap (λ b. cond (not b) 1 0) (eq-eqb l.receiver host_address e)

-- a letter is taken out
pub taken_out : (l : Letter) (old rest new : List Letter) → Takes old l rest → new ≡ rest → for_threads old ≡ 0 → for_threads new ≡ 0
taken_out l old rest new takes e z =
    let a = takes.each is_for_thread in
    let b = for_threads-cons l rest in
    let c = ap for_threads e in
    omega arith

-- ---- what a thread asks for

pub ended_flight : (o : Op) (a : ℕ) (s : BagState) → (ended_by o a s).flight ≡ s.flight
ended_flight op.None a s = refl
ended_flight (op.Send to bytes) a s = refl
ended_flight op.Hand a s = refl
ended_flight (op.Free slot) a s = refl
ended_flight (op.Idle vote) a s = refl
ended_flight (op.Kill value) a s = refl
ended_flight (op.Trap why) a s = refl

-- a send to the host
pub sent_to_host : (o : Op) (m : Program) (a number : ℕ) (s new : BagState) → sent_by m a number o s ≡ Some new → IsKeyless o → for_threads s.flight ≡ 0 → for_threads new.flight ≡ 0
sent_to_host op.None m a number s new e k z = absurd cc
sent_to_host (op.Send (dest.Thread t) bytes) m a number s new e k z = absurd k
sent_to_host (op.Send dest.Host bytes) m a number s new e k z =
    let l : Letter = letter a number host_address bytes in
    let is : new.flight ≡ l ∷ s.flight = sym (ap (λ x. (unwrap_or x new).flight) e) in
    let b = for_threads-cons l s.flight in
    let c = host_is_none l refl in
    let d = ap for_threads is in
    omega arith
sent_to_host (op.Send (dest.Mask tile mask) bytes) m a number s new e k z = absurd k
sent_to_host (op.Send (dest.Key key) bytes) m a number s new e k z = absurd k
sent_to_host op.Hand m a number s new e k z = absurd cc
sent_to_host (op.Free slot) m a number s new e k z = absurd cc
sent_to_host (op.Idle vote) m a number s new e k z = absurd cc
sent_to_host (op.Kill value) m a number s new e k z = absurd cc
sent_to_host (op.Trap why) m a number s new e k z = absurd cc
