use Rattle.tn_thread.proofs.Same.{same_threads, parts_of}
use Rattle.tn_thread.proofs.thread.Thread.same.Goals as goal

pub returns : goal.returns
returns c = (
  λ h. same_threads c.args.self.now c.args.other.now (c.same_parts.ensures.0 h),
  λ e. c.same_parts.ensures.1 (parts_of c.args.self.now c.args.other.now e),
)
