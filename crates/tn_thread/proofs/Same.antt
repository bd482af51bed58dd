-- Threads are equal exactly where their fields are.
use Rattle.std.proofs.Common.{◌≡◌, ap}
use Rattle.tn_thread.specs.declared.thread.Thread.{Thread}
use Rattle.tn_thread.specs.Same.{SameParts}

pub same_threads : (a b : Thread) → SameParts a b → a ≡ b
same_threads a b p = λ k. record {
  id = p.0.0 k;
  shape = p.0.1 k;
  firmware = p.0.2 k;
  state = p.3 k;
  pc = p.1.0 k;
  regs = p.4 k;
  steps = p.1.1 k;
  sends = p.1.2 k;
  given = p.1.3 k;
  answer_to = p.1.4 k;
  dest = p.2.0 k;
  mask_low = p.2.1 k;
  mask_high = p.2.2 k;
  mem = p.5 k;
  out = p.6 k;
  hand = p.1.5 k;
  switch = p.7 k;
}

pub parts_of : (a b : Thread) → a ≡ b → SameParts a b
parts_of a b e = (
  (ap (λ (t : Thread). t.id) e, ap (λ (t : Thread). t.shape) e, ap (λ (t : Thread). t.firmware) e),
  (ap (λ (t : Thread). t.pc) e, ap (λ (t : Thread). t.steps) e, ap (λ (t : Thread). t.sends) e, ap (λ (t : Thread). t.given) e, ap (λ (t : Thread). t.answer_to) e, ap (λ (t : Thread). t.hand) e),
  (ap (λ (t : Thread). t.dest) e, ap (λ (t : Thread). t.mask_low) e, ap (λ (t : Thread). t.mask_high) e),
  ap (λ (t : Thread). t.state) e,
  ap (λ (t : Thread). t.regs) e,
  ap (λ (t : Thread). t.mem) e,
  ap (λ (t : Thread). t.out) e,
  ap (λ (t : Thread). t.switch) e,
)
