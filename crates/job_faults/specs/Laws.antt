-- What the definition of the faults of sections means.
use Rattle.std.specs.Prelude.{◌≡◌, ◌⊎◌, ◌≤◌, ◌++◌, List, [], ◌∷◌, Option, Some, None}
use Rattle.std.specs.List.{AllByRecursion, filter_map}
use Rattle.job_text.specs.declared.job.Job.{Job}
use Rattle.job_faults.specs.declared.fault.LoadFault.{LoadFault}
use Rattle.job_faults.specs.Assembly.{sections_of}
use Rattle.job_faults.specs.Faults.{beat_fault, beat_lines, code_fault, fill_fault, place_fault, send_fault}

-- the faults of all sections
abbrev pub section_faults : Job → List LoadFault
section_faults job =
    filter_map (code_fault job.numbers) (sections_of job)
    ++ (filter_map (fill_fault job.numbers) job.fills
    ++ (filter_map (place_fault job.numbers) job.tables
    ++ (filter_map (beat_fault job.version) (beat_lines job.tables)
    ++ filter_map (send_fault job.numbers) job.script)))

abbrev pub IsAmong : LoadFault → List LoadFault → Type 0
IsAmong f [] = ⊥
IsAmong f (g ∷ gs) = (f ≡ g) ⊎ IsAmong f gs

-- one of these faults, of which none stands on an earlier line; or there are none
abbrev pub IsFirst : Option LoadFault → List LoadFault → Type 0
IsFirst None faults = faults ≡ []
IsFirst (Some f) faults = IsAmong f faults × AllByRecursion (λ g. f.line ≤ g.line) faults
