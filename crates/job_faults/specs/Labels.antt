-- The labels of kinds, which the assembly for all tiles must have.
use Rattle.std.specs.Prelude.{ℕ, ◌++◌, List, [], ◌∷◌, codes, is_some, map, replicate, Option, Some, None, if◌then◌else◌}
use Rattle.std.specs.Option.{option_or}
use Rattle.asm_build.specs.Labels.{address_of}
use Rattle.graph_text.specs.declared.graph.KindRow.{KindRow}
use Rattle.job_text.specs.declared.job.Job.{Job}
use Rattle.job_faults.specs.declared.fault.FaultName.TheVariants as fault
use Rattle.job_faults.specs.declared.fault.LoadFault.{LoadFault}
use Rattle.job_faults.specs.declared.map.Mapped.{Mapped}
use Rattle.job_faults.specs.Assembly.{LabelList, labels_of}
use Rattle.job_faults.specs.Faults.{fault_at}
use Rattle.job_faults.specs.Mapping.{graph_mapped}

-- the address of a kind's handler, if the handler has its label
abbrev pub entry_of : LabelList → List ℕ → List ℕ → Option ℕ
entry_of labels kind handler = address_of (kind ++ handler) labels

abbrev pub with_front : Option ℕ → Option (List ℕ) → Option (List ℕ)
with_front None rest = None
with_front (Some a) None = None
with_front (Some a) (Some rest) = Some (a ∷ rest)

-- the five addresses, if each is there
abbrev pub all_given : Option ℕ → Option ℕ → Option ℕ → Option ℕ → Option ℕ → Option (List ℕ)
all_given init send recv step finish =
    with_front init (with_front send (with_front recv (with_front step (with_front finish (Some [])))))

-- the addresses of a kind's handlers, if each handler has its label
unfoldable pub entries_of : LabelList → List ℕ → Option (List ℕ)
entries_of labels kind =
    all_given (entry_of labels kind (codes "_init")) (entry_of labels kind (codes "_send")) (entry_of labels kind (codes "_recv"))
    (entry_of labels kind (codes "_step")) (entry_of labels kind (codes "_finish"))

-- the addresses that are given, else zeros
abbrev pub given_or_zero : Option (List ℕ) → List ℕ
given_or_zero None = replicate 5 0
given_or_zero (Some entries) = entries

-- the addresses of the handlers of each kind, by kind
abbrev pub entries_in : LabelList → List KindRow → List (List ℕ)
entries_in labels kinds = map (λ (k : KindRow). given_or_zero (entries_of labels k.name)) kinds

abbrev pub kind_fault : LabelList → KindRow → Option LoadFault
kind_fault labels kind = if is_some (entries_of labels kind.name) then None else Some (fault_at kind.line fault.NoLabel)

-- the first kind of which a label is missing, at its line
abbrev pub kinds_fault : LabelList → List KindRow → Option LoadFault
kinds_fault labels [] = None
kinds_fault labels (k ∷ ks) = option_or (kind_fault labels k) (kinds_fault labels ks)

abbrev pub labelled_fault : LabelList → Option Mapped → Option LoadFault
labelled_fault labels None = None
labelled_fault labels (Some m) = kinds_fault labels m.graph.kinds

-- a kind of the job's graph of which a label is missing
abbrev pub labels_fault : Job → Option LoadFault
labels_fault job = labelled_fault (labels_of job.asms) (graph_mapped job)
