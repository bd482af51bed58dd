-- A whole job, as it is printed, is read again.
use Rattle.std.proofs.Common.{◌≡◌, ◌⊎◌, ℕ, true, List, [], ◌∷◌, ◌++◌, Option, Some, None, map, length, flat_map, refl, sym, ap, ◌∙◌, ⊎_elim, inl, append-nil, append_assoc}
use Rattle.std.specs.declared.result.Result.{Result}
use Rattle.std.specs.declared.result.Result.TheVariants.{Ok}
use Rattle.std.specs.Option.{is_some}
use Rattle.std.proofs.lemmas.Grind.{flat_map-append}
use Rattle.std.proofs.lemmas.List.{map-append}
use Rattle.std.proofs.lemmas.List.Folds.{flat_map-map}
use Rattle.tn_base.specs.declared.shape.ShapeNumbers.{ShapeNumbers}
use Rattle.tn_text.specs.declared.stop.Fault.{Fault}
use Rattle.tn_text.specs.Lines.{lines_of}
use Rattle.job_text.specs.declared.job.CodeSection.{CodeSection}
use Rattle.job_text.specs.declared.job.FillLine.{FillLine}
use Rattle.job_text.specs.declared.job.Job.{Job}
use Rattle.job_text.specs.declared.job.JobKind.{JobKind}
use Rattle.job_text.specs.declared.job.ScriptLine.{ScriptLine}
use Rattle.job_text.specs.declared.job.Section.{Section}
use Rattle.job_text.specs.declared.job.Section.TheVariants.{Code, Asm, Fill, Table, Script, Graph}
use Rattle.job_text.specs.declared.job.TableSection.{TableSection}
use Rattle.job_text.specs.declared.job.TextSection.{TextSection}
use Rattle.job_text.specs.declared.draft.Draft.{Draft}
use Rattle.job_text.specs.Printed.{graph_text, header_text, shape_text, settings_text, code_text, asm_text, fill_text, table_text, script_text, sections_text, text_of}
use Rattle.job_text.specs.Sections.{graph_sections, job_sections, with_section}
use Rattle.job_text.specs.Text.{start, drafted, ended, job_by, job_of}
use Rattle.job_text.specs.WellFormed.{AreNumbers, IsWellFormed, ReadsBack, code_unlined, text_unlined, fill_unlined, table_unlined, script_unlined, unlined}
use Rattle.job_text.proofs.Leads.{Leads, leads_then, IsOutside}
use Rattle.job_text.proofs.Heads.{header_leads, shape_leads, settings_lead, headed_draft, shaped_draft, settled, SettingsFit}
use Rattle.job_text.proofs.Whole.{section_text, section_unlined, sections_lead, with_sections}

-- The text of the sections.

part : {T : Type 0} (f : T → Section) (xs : List T) (rest : List Section) → flat_map section_text (map f xs ++ rest) ≡ flat_map (λ x. section_text (f x)) xs ++ flat_map section_text rest
part f xs rest = flat_map-append section_text (map f xs) rest ∙ ap (λ (t : List ℕ). t ++ flat_map section_text rest) (flat_map-map section_text f xs)

graph_part : (g : Option TextSection) → flat_map section_text (graph_sections g) ≡ graph_text g
graph_part None = refl
graph_part (Some s) = append-nil (section_text (Graph s))

assoc_six : (c a f t s g : List ℕ) → c ++ a ++ f ++ t ++ s ++ g ≡ c ++ (a ++ (f ++ (t ++ (s ++ g))))
assoc_six c a f t s g =
    append_assoc (c ++ a ++ f ++ t) s g ∙ append_assoc (c ++ a ++ f) t (s ++ g) ∙ append_assoc (c ++ a) f (t ++ (s ++ g)) ∙ append_assoc c a (f ++ (t ++ (s ++ g)))

sections_printed : (job : Job) → sections_text job ≡ flat_map section_text (job_sections job)
sections_printed job =
    let g = graph_sections job.graph in
    let s = map (λ l. Script l) job.script ++ g in
    let t = map (λ x. Table x) job.tables ++ s in
    let f = map (λ x. Fill x) job.fills ++ t in
    let a = map (λ x. Asm x) job.asms ++ f in
    let gs : flat_map section_text s ≡ flat_map script_text job.script ++ graph_text job.graph = part (λ l. Script l) job.script g ∙ ap (λ (x : List ℕ). flat_map script_text job.script ++ x) (graph_part job.graph) in
    let ts : flat_map section_text t ≡ flat_map table_text job.tables ++ (flat_map script_text job.script ++ graph_text job.graph) = part (λ x. Table x) job.tables s ∙ ap (λ (x : List ℕ). flat_map table_text job.tables ++ x) gs in
    let fs : flat_map section_text f ≡ flat_map fill_text job.fills ++ (flat_map table_text job.tables ++ (flat_map script_text job.script ++ graph_text job.graph)) = part (λ x. Fill x) job.fills t ∙ ap (λ (x : List ℕ). flat_map fill_text job.fills ++ x) ts in
    let as_ : flat_map section_text a ≡ flat_map asm_text job.asms ++ (flat_map fill_text job.fills ++ (flat_map table_text job.tables ++ (flat_map script_text job.script ++ graph_text job.graph))) = part (λ x. Asm x) job.asms f ∙ ap (λ (x : List ℕ). flat_map asm_text job.asms ++ x) fs in
    let cs = part (λ x. Code x) job.codes a ∙ ap (λ (x : List ℕ). flat_map code_text job.codes ++ x) as_ in
    assoc_six (flat_map code_text job.codes) (flat_map asm_text job.asms) (flat_map fill_text job.fills) (flat_map table_text job.tables) (flat_map script_text job.script) (graph_text job.graph) ∙ sym cs

-- A job with sections one after another.

with_append : (xs ys : List Section) (job : Job) → with_sections job (xs ++ ys) ≡ with_sections (with_sections job xs) ys
with_append [] ys job = refl
with_append (x ∷ xs) ys job = with_append xs ys (with_section job x)

with_codes : (xs : List CodeSection) (job : Job) → with_sections job (map (λ s. Code s) xs) ≡ record job { codes = job.codes ++ xs }
with_codes [] job = ap (λ (ys : List CodeSection). record job { codes = ys }) (sym (append-nil job.codes))
with_codes (x ∷ xs) job = with_codes xs (with_section job (Code x)) ∙ ap (λ (ys : List CodeSection). record job { codes = ys }) (append_assoc job.codes (x ∷ []) xs)

with_asms : (xs : List TextSection) (job : Job) → with_sections job (map (λ s. Asm s) xs) ≡ record job { asms = job.asms ++ xs }
with_asms [] job = ap (λ (ys : List TextSection). record job { asms = ys }) (sym (append-nil job.asms))
with_asms (x ∷ xs) job = with_asms xs (with_section job (Asm x)) ∙ ap (λ (ys : List TextSection). record job { asms = ys }) (append_assoc job.asms (x ∷ []) xs)

with_fills : (xs : List FillLine) (job : Job) → with_sections job (map (λ f. Fill f) xs) ≡ record job { fills = job.fills ++ xs }
with_fills [] job = ap (λ (ys : List FillLine). record job { fills = ys }) (sym (append-nil job.fills))
with_fills (x ∷ xs) job = with_fills xs (with_section job (Fill x)) ∙ ap (λ (ys : List FillLine). record job { fills = ys }) (append_assoc job.fills (x ∷ []) xs)

with_tables : (xs : List TableSection) (job : Job) → with_sections job (map (λ t. Table t) xs) ≡ record job { tables = job.tables ++ xs }
with_tables [] job = ap (λ (ys : List TableSection). record job { tables = ys }) (sym (append-nil job.tables))
with_tables (x ∷ xs) job = with_tables xs (with_section job (Table x)) ∙ ap (λ (ys : List TableSection). record job { tables = ys }) (append_assoc job.tables (x ∷ []) xs)

with_script : (xs : List ScriptLine) (job : Job) → with_sections job (map (λ l. Script l) xs) ≡ record job { script = job.script ++ xs }
with_script [] job = ap (λ (ys : List ScriptLine). record job { script = ys }) (sym (append-nil job.script))
with_script (x ∷ xs) job = with_script xs (with_section job (Script x)) ∙ ap (λ (ys : List ScriptLine). record job { script = ys }) (append_assoc job.script (x ∷ []) xs)

with_graph : (g : Option TextSection) (job : Job) → job.graph ≡ None → with_sections job (graph_sections g) ≡ record job { graph = g }
with_graph None job e = ap (λ (o : Option TextSection). record job { graph = o }) e
with_graph (Some s) job e = refl

-- a job without sections, with the sections of another
abbrev filled : Job → Job → Job
filled base job = record base { codes = base.codes ++ job.codes; asms = base.asms ++ job.asms; fills = base.fills ++ job.fills; tables = base.tables ++ job.tables; script = base.script ++ job.script; graph = job.graph }

with_all : (base job : Job) → base.graph ≡ None → with_sections base (job_sections job) ≡ filled base job
with_all base job none =
    let g = graph_sections job.graph in
    let s = map (λ l. Script l) job.script ++ g in
    let t = map (λ x. Table x) job.tables ++ s in
    let f = map (λ x. Fill x) job.fills ++ t in
    let a = map (λ x. Asm x) job.asms ++ f in
    let one = record base { codes = base.codes ++ job.codes } in
    let two = record one { asms = base.asms ++ job.asms } in
    let three = record two { fills = base.fills ++ job.fills } in
    let four = record three { tables = base.tables ++ job.tables } in
    let five = record four { script = base.script ++ job.script } in
    with_append (map (λ x. Code x) job.codes) a base ∙ ap (λ (j : Job). with_sections j a) (with_codes job.codes base)
    ∙ with_append (map (λ x. Asm x) job.asms) f one ∙ ap (λ (j : Job). with_sections j f) (with_asms job.asms one)
    ∙ with_append (map (λ x. Fill x) job.fills) t two ∙ ap (λ (j : Job). with_sections j t) (with_fills job.fills two)
    ∙ with_append (map (λ x. Table x) job.tables) s three ∙ ap (λ (j : Job). with_sections j s) (with_tables job.tables three)
    ∙ with_append (map (λ l. Script l) job.script) g four ∙ ap (λ (j : Job). with_sections j g) (with_script job.script four)
    ∙ with_graph job.graph five none

-- Lines that do not count.

unlined_with : (job : Job) (s : Section) → unlined (with_section job s) ≡ with_section (unlined job) (section_unlined s)
unlined_with job (Code s) = ap (λ (xs : List CodeSection). record (unlined job) { codes = xs }) (map-append code_unlined job.codes (s ∷ []))
unlined_with job (Asm s) = ap (λ (xs : List TextSection). record (unlined job) { asms = xs }) (map-append text_unlined job.asms (s ∷ []))
unlined_with job (Fill f) = ap (λ (xs : List FillLine). record (unlined job) { fills = xs }) (map-append fill_unlined job.fills (f ∷ []))
unlined_with job (Table t) = ap (λ (xs : List TableSection). record (unlined job) { tables = xs }) (map-append table_unlined job.tables (t ∷ []))
unlined_with job (Script l) = ap (λ (xs : List ScriptLine). record (unlined job) { script = xs }) (map-append script_unlined job.script (l ∷ []))
unlined_with job (Graph s) = refl

unlined_all : (ss : List Section) (job : Job) → unlined (with_sections job ss) ≡ with_sections (unlined job) (map section_unlined ss)
unlined_all [] job = refl
unlined_all (s ∷ ss) job = unlined_all ss (with_section job s) ∙ ap (λ (j : Job). with_sections j (map section_unlined ss)) (unlined_with job s)

same_unlined : (job : Job) (xs ys : List Section) → map section_unlined xs ≡ map section_unlined ys → unlined (with_sections job xs) ≡ unlined (with_sections job ys)
same_unlined job xs ys e = unlined_all xs job ∙ ap (with_sections (unlined job)) e ∙ sym (unlined_all ys job)

-- The whole text.

some_of : {S : Type 0} (o : Option S) → is_some o ≡ true → (s : S) × (o ≡ Some s)
some_of None h = cc
some_of (Some s) h = (s, refl)

settings_fit : (n : ShapeNumbers) → AreNumbers n → SettingsFit n
settings_fit n h = record { slots = h.slots; link = h.link; mem = h.mem; fuel = h.fuel; turn = h.turn }

ended_outside : (d : Draft) (m : ℕ) → IsOutside d.place → ended d.place d m ≡ Ok d.job
ended_outside d m h = ⊎_elim (λ e. rw e refl) (λ e. rw e refl) h

head_leads : (v : ℕ) (n : ShapeNumbers) → (v ≡ 1) ⊎ (v ≡ 2) → AreNumbers n → Leads start 0 (header_text v ++ shape_text n ++ settings_text n) (settled v n) 7
head_leads v n version h =
    let header = header_leads v version in
    let shape = shape_leads v n (h.boards_x, (h.boards_y, (h.tiles_x, (h.tiles_y, (h.cores, (h.threads, tt)))))) in
    let settings = settings_lead v n (settings_fit n h) in
    let one = leads_then start 0 (header_text v) (headed_draft v) 1 (shape_text n) (shaped_draft v n) 2 header shape in
    leads_then start 0 (header_text v ++ shape_text n) (shaped_draft v n) 2 (settings_text n) (settled v n) 7 one settings

read_whole : (head text : List ℕ) (d e : Draft) (m : ℕ) → Leads start 0 head d 7 → Leads d 7 text e m → IsOutside e.place → job_of (lines_of (head ++ text)) ≡ Ok e.job
read_whole head text d e m leads more out =
    let all = leads_then start 0 head d 7 text e m leads more in
    let read : drafted 1 (lines_of (head ++ text)) start ≡ Ok e = ap (λ (t : List ℕ). drafted 1 (lines_of t) start) (sym (append-nil (head ++ text))) ∙ all.reads [] in
    ap (λ (r : Result Draft (Fault JobKind)). job_by (length (lines_of (head ++ text))) r) read ∙ ended_outside e (length (lines_of (head ++ text))) out

settled_numbers : (job : Job) → job.numbers.version ≡ job.version → (settled job.version job.numbers).job.numbers ≡ job.numbers
settled_numbers job same = ap (λ (k : ℕ). record job.numbers { version = k }) (sym same)

settled_job : (job : Job) → job.numbers.version ≡ job.version → unlined (filled (settled job.version job.numbers).job job) ≡ unlined job
settled_job job same = ap (λ (k : ShapeNumbers). record (unlined job) { numbers = k }) (settled_numbers job same)

pub reads_back : (job : Job) → IsWellFormed job → ReadsBack job
reads_back job h =
    let d = settled job.version job.numbers in
    let ss = job_sections job in
    let named = some_of _ h.once in
    let r = sections_lead ss d 7 named.0 (inl refl) h.sections named.1 in
    let text = sections_printed job in
    let leads = head_leads job.version job.numbers h.version h.numbers in
    let head = header_text job.version ++ shape_text job.numbers ++ settings_text job.numbers in
    let read : job_of (lines_of (head ++ flat_map section_text ss)) ≡ Ok (with_sections d.job r.read) = read_whole head (flat_map section_text ss) d _ r.behind leads r.leads r.out in
    let whole : job_of (lines_of (text_of job)) ≡ Ok (with_sections d.job r.read) = ap (λ (t : List ℕ). job_of (lines_of (head ++ t))) text ∙ read in
    (with_sections d.job r.read, whole, same_unlined d.job r.read ss r.same ∙ ap unlined (with_all d.job job refl) ∙ settled_job job h.same_version)
