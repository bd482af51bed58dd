-- Sections of assembly, gone through from the front.
use Rattle.std.proofs.Common.{◌≡◌, ℕ, ◌+◌, ◌<◌, ◌∷◌, [], List, Option, None, length, drop, get_or, refl, sym}
use Rattle.std.specs.declared.result.Result.{Result}
use Rattle.std.specs.declared.result.Result.TheVariants.{Ok, Err}
use Rattle.std.specs.List.{AllByRecursion}
use Rattle.tn_text.specs.declared.stop.Fault.{Fault as At}
use Rattle.tn_text.specs.declared.stop.Stop.{Stop}
use Rattle.tn_text.specs.declared.stop.Stop.TheVariants.{Fault, Memory}
use Rattle.asm_text.specs.declared.fault.AsmKind.{AsmKind}
use Rattle.asm_build.specs.declared.image.Image.{Image}
use Rattle.job_text.specs.declared.job.TextSection.{TextSection}
use Rattle.job_faults.specs.declared.fault.LoadFault.{LoadFault}
use Rattle.job_text.specs.Numbered.{IsNumbered}
use Rattle.job_faults.specs.Assembly.{IsStop, asms_fault, fault_by, image_of}
use Rattle.job_faults.proofs.Ranges.{rest_first}

stop_first : (r : Result Image (At AsmKind)) (others : Option LoadFault) (stop : Stop LoadFault) → IsStop stop (fault_by r None) → IsStop stop (fault_by r others)
stop_first r others Memory h = tt
stop_first (Ok image) others (Fault fault) h = cc
stop_first (Err other) others (Fault fault) h = h

none_first : (r : Result Image (At AsmKind)) (others : Option LoadFault) → fault_by r None ≡ None → fault_by r others ≡ others
none_first (Ok image) others h = refl
none_first (Err fault) others h = cc

pub section_stop : (ss : List TextSection) (i : ℕ) (s : TextSection) (stop : Stop LoadFault) → i < length ss → s ≡ get_or ss i s → IsStop stop (asms_fault (s ∷ [])) → IsStop stop (asms_fault (drop i ss))
section_stop ss i s stop h is k = rw (rest_first ss i s h is) (stop_first (image_of s) (asms_fault (drop (i + 1) ss)) stop k)

pub section_taken : (ss : List TextSection) (i : ℕ) (s : TextSection) → i < length ss → s ≡ get_or ss i s → asms_fault (s ∷ []) ≡ None → asms_fault (drop (i + 1) ss) ≡ asms_fault (drop i ss)
section_taken ss i s h is k = rw (rest_first ss i s h is) (sym (none_first (image_of s) (asms_fault (drop (i + 1) ss)) k))

pub numbered_first : (ss : List TextSection) (i : ℕ) (s : TextSection) → i < length ss → s ≡ get_or ss i s → AllByRecursion IsNumbered (drop i ss) → IsNumbered s × AllByRecursion IsNumbered (drop (i + 1) ss)
numbered_first ss i s h is all = rw (rest_first ss i s h is) at all
