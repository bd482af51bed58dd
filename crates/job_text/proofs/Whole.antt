-- Each section, as it is printed, is read again.
use Rattle.std.proofs.Common.{◌≡◌, ℕ, ◌+◌, ◌<◌, false, eqb, List, [], ◌∷◌, ◌++◌, Option, Some, None, length, map, flat_map, codes, refl, sym, ap, subst, ◌∙◌, inr, arith}
use Rattle.std.specs.declared.result.Result.TheVariants.{Ok}
use Rattle.std.specs.Fmt.{decimal}
use Rattle.std.specs.List.{AllByRecursion}
use Rattle.std.specs.Option.{option_and_then}
use Rattle.std.specs.Str.{bytes_eq}
use Rattle.std.specs.Str.Parse.{AllDigits}
use Rattle.std.specs.Char.{digit_value}
use Rattle.std.proofs.lemmas.Bool.{le-leb}
use Rattle.std.proofs.lemmas.Bool.Decides.{nat_tests}
use Rattle.std.proofs.lemmas.Fmt.{decimal_is_IsNumeral}
use Rattle.tn_text.specs.Lines.{lines_of, feed}
use Rattle.tn_text.specs.Hex.{hex_text, word_text}
use Rattle.tn_text.specs.Words.{spaced}
use Rattle.tn_text.proofs.Clean.{IsWord, AreWords, spaced_one, spaced_two, spaced_three}
use Rattle.tn_text.proofs.Printed.{hex_read_back, decimal_read_back}
use Rattle.tn_text.proofs.PrintedWords.{decimal_word, hex_word}
use Rattle.job_text.specs.declared.job.Owner.{Owner}
use Rattle.job_text.specs.declared.job.Owner.TheVariants.{All, Tile}
use Rattle.job_text.specs.declared.job.BeatLine.{BeatLine}
use Rattle.job_text.specs.declared.job.CodeSection.{CodeSection}
use Rattle.job_text.specs.declared.job.TextSection.{TextSection}
use Rattle.job_text.specs.declared.job.FillLine.{FillLine}
use Rattle.job_text.specs.declared.job.TableSection.{TableSection}
use Rattle.job_text.specs.declared.job.ScriptText.{ScriptText}
use Rattle.job_text.specs.declared.job.ScriptText.TheVariants.{Send, Idle}
use Rattle.job_text.specs.declared.job.ScriptLine.{ScriptLine}
use Rattle.job_text.specs.declared.job.Job.{Job}
use Rattle.job_text.specs.declared.job.Section.{Section}
use Rattle.job_text.specs.declared.job.Section.TheVariants as section
use Rattle.job_text.specs.declared.keyword.Keyword.{Keyword}
use Rattle.job_text.specs.declared.keyword.Keyword.TheVariants.{Number, Code, Asm, Fill, Table, Host, Graph}
use Rattle.job_text.specs.declared.named.Named.{Named}
use Rattle.job_text.specs.declared.draft.Place.{Place}
use Rattle.job_text.specs.declared.draft.Draft.{Draft}
use Rattle.job_text.specs.Arguments.{◌>>=◌, owner_in}
use Rattle.job_text.specs.Keyword.{keyword_of}
use Rattle.job_text.specs.Named.{section_named, named_by}
use Rattle.job_text.specs.Printed.{owner_text, end_text, code_text, asm_text, fill_text, beat_text, table_text, script_text}
use Rattle.job_text.specs.SectionLines.{section_begun}
use Rattle.job_text.specs.Sections.{with_section}
use Rattle.job_text.specs.Text.{begun, closed, entry_line, going_on, keyword_line, opened}
use Rattle.job_text.specs.WellFormed.{IsOwner, IsCode, IsAsm, IsFill, IsTable, IsScript, IsScriptText, IsText, IsGraphText, IsSection, code_unlined, text_unlined, fill_unlined, table_unlined, script_unlined}
use Rattle.job_text.proofs.Leads.{Leads, leads_none, leads_then, leads_content, leads_entry, entry_content, IsOutside}
use Rattle.job_text.proofs.Heads.{numbers_of-decimals}
use Rattle.job_text.proofs.Inside.{fit_bytes, words_lead, beats_lead, text_leads, end_leads, with_text, KeepsLines}
use Rattle.job_text.proofs.WholeLines.{lines_of-unbroken}

-- A section as text, and without its number of a line.

abbrev pub section_text : Section → List ℕ
section_text (section.Code s) = code_text s
section_text (section.Asm s) = asm_text s
section_text (section.Fill f) = fill_text f
section_text (section.Table t) = table_text t
section_text (section.Script l) = script_text l
section_text (section.Graph s) = s.text ++ end_text

abbrev pub section_unlined : Section → Section
section_unlined (section.Code s) = section.Code (code_unlined s)
section_unlined (section.Asm s) = section.Asm (text_unlined s)
section_unlined (section.Fill f) = section.Fill (fill_unlined f)
section_unlined (section.Table t) = section.Table (table_unlined t)
section_unlined (section.Script l) = section.Script (script_unlined l)
section_unlined (section.Graph s) = section.Graph (text_unlined s)

-- a section is read as a section that differs in lines alone
pub record One (d : Draft) (n : ℕ) (s : Section) (m : Named) : Type 0 where
  pub item : Section
  pub behind : ℕ
  pub same : section_unlined item ≡ section_unlined s
  pub leads : Leads d n (section_text s) (closed d.job m item) behind

-- Lines with which sections begin.

abbrev IsHead : Keyword → Type 0
IsHead (Number s) = ⊥
IsHead _ = Unit {0}

keyword_says : (d : Draft) (n : ℕ) (l : List ℕ) (key : Keyword) (ws : List (List ℕ)) → IsHead key → keyword_line d n l (Some key) ws ≡ (section_begun n l key ws >>= begun d.job d.named)
keyword_says d n l (Number s) ws h = absurd h
keyword_says d n l Code ws h = refl
keyword_says d n l Asm ws h = refl
keyword_says d n l Fill ws h = refl
keyword_says d n l Table ws h = refl
keyword_says d n l Host ws h = refl
keyword_says d n l Graph ws h = refl

begun_is : (job : Job) (named m : Named) (s : Section) → section_named named s ≡ Some m → begun job named s ≡ Ok (opened job s m)
begun_is job named m s h = rw h refl

entry_says : (d : Draft) (n : ℕ) (l w : List ℕ) (ws : List (List ℕ)) (key : Keyword) (s : Section) (m : Named) → keyword_of w ≡ Some key → IsHead key → section_begun n l key ws ≡ Ok s → section_named d.named s ≡ Some m
    → entry_line d n l (w ∷ ws) ≡ Ok (opened d.job s m)
entry_says d n l w ws key s m is head said named =
    ap (λ (o : Option Keyword). keyword_line d n l o ws) is ∙ keyword_says d n l key ws head ∙ ap (λ r. r >>= begun d.job d.named) said ∙ begun_is d.job d.named m s named

head_leads : (d : Draft) (n : ℕ) (w : List ℕ) (ws : List (List ℕ)) (key : Keyword) (s : Section) (m : Named) → IsOutside d.place → IsWord w → AreWords ws → keyword_of w ≡ Some key → IsHead key
    → section_begun (n + 1) (w ++ flat_map spaced ws) key ws ≡ Ok s → section_named d.named s ≡ Some m → Leads d n (w ++ flat_map spaced ws ++ feed) (opened d.job s m) (n + 1)
head_leads d n w ws key s m out h hs is head said named =
    leads_entry d n w ws (opened d.job s m) out h hs (entry_says d (n + 1) (w ++ flat_map spaced ws) w ws key s m is head said named)

-- owners

not_a : (b : ℕ) → digit_value b < 10 → eqb b 97 ≡ false
not_a b h = grind (arith, nat_tests)

digits_not_all : (text : List ℕ) → AllDigits 10 text → bytes_eq text (codes "all") ≡ false
digits_not_all [] h = refl
digits_not_all (b ∷ bs) h =
    let e : eqb b 97 ≡ false = not_a b h.0 in rw e refl

pub owner_word : (o : Owner) → IsOwner o → IsWord (owner_text o)
owner_word All h = record { bytes = refl; some = refl }
owner_word (Tile tile) h = decimal_word tile h

pub owner_back : (o : Owner) → IsOwner o → owner_in (owner_text o ∷ []) ≡ Ok o
owner_back All h = refl
owner_back (Tile tile) h =
    let other = digits_not_all (decimal tile) (decimal_is_IsNumeral tile (omega arith)).0.1 in
    let value = decimal_read_back tile h in
    rw (other, value) refl

-- Code.

one_code : (d : Draft) (n : ℕ) (x : CodeSection) (m : Named) → IsOutside d.place → IsCode x → section_named d.named (section.Code x) ≡ Some m → One d n (section.Code x) m
one_code d n x m out h named =
    let s = record x { line = n + 1; words = [] } in
    let owner = owner_back x.owner h.owner in
    let head = head_leads d n (codes "code") (owner_text x.owner ∷ []) Code (section.Code s) m out (record { bytes = refl; some = refl }) (owner_word x.owner h.owner, tt) refl tt (rw owner refl) named in
    let line : codes "code" ++ flat_map spaced (owner_text x.owner ∷ []) ++ feed ≡ codes "code" ++ spaced (owner_text x.owner) ++ feed = ap (λ (xs : List ℕ). xs ++ feed) (sym (spaced_one (codes "code") (owner_text x.owner))) in
    let a = going_on d.job m (section.Code s) in
    let first = subst (λ (t : List ℕ). Leads d n t a (n + 1)) line head in
    let words = words_lead x.words d.job m s (n + 1) h.words (omega (arith, h.few)) in
    let item = record x { line = n + 1 } in
    let b = going_on d.job m (section.Code item) in
    let one = leads_then d n (codes "code" ++ spaced (owner_text x.owner) ++ feed) a (n + 1) (flat_map word_text x.words) b words.0 first words.1 in
    record {
      item = section.Code item;
      behind = words.0 + 1;
      same = refl;
      leads = leads_then d n (codes "code" ++ spaced (owner_text x.owner) ++ feed ++ flat_map word_text x.words) b words.0 end_text (closed d.job m (section.Code item)) (words.0 + 1) one (end_leads d.job m (section.Code item) words.0);
    }

-- Assembly.

keeps_asm : KeepsLines (λ s. section.Asm s)
keeps_asm n l s = refl

keeps_graph : KeepsLines (λ s. section.Graph s)
keeps_graph n l s = refl

-- whole lines are kept as they are
whole_text : (kind : TextSection → Section) (job : Job) (named : Named) (s : TextSection) (n : ℕ) (text : List ℕ) → KeepsLines kind → IsText text
    → (m : ℕ) × Leads (going_on job named (kind s)) n text (going_on job named (kind (with_text s (s.text ++ text)))) m
whole_text kind job named s n text keeps h =
    let r = text_leads kind keeps (lines_of text) job named s n h.lines in
    (r.0, subst (λ (t : List ℕ). Leads (going_on job named (kind s)) n t (going_on job named (kind (with_text s (s.text ++ t)))) r.0) h.whole r.1)

one_asm : (d : Draft) (n : ℕ) (x : TextSection) (m : Named) → IsOutside d.place → IsAsm x → section_named d.named (section.Asm x) ≡ Some m → One d n (section.Asm x) m
one_asm d n x m out h named =
    let s = record x { line = n + 1; text = [] } in
    let owner = owner_back x.owner h.owner in
    let head = head_leads d n (codes "asm") (owner_text x.owner ∷ []) Asm (section.Asm s) m out (record { bytes = refl; some = refl }) (owner_word x.owner h.owner, tt) refl tt (rw owner refl) named in
    let line : codes "asm" ++ flat_map spaced (owner_text x.owner ∷ []) ++ feed ≡ codes "asm" ++ spaced (owner_text x.owner) ++ feed = ap (λ (xs : List ℕ). xs ++ feed) (sym (spaced_one (codes "asm") (owner_text x.owner))) in
    let a = going_on d.job m (section.Asm s) in
    let first = subst (λ (t : List ℕ). Leads d n t a (n + 1)) line head in
    let text = whole_text (λ y. section.Asm y) d.job m s (n + 1) x.text keeps_asm h.text in
    let item = record x { line = n + 1 } in
    let b = going_on d.job m (section.Asm item) in
    let one = leads_then d n (codes "asm" ++ spaced (owner_text x.owner) ++ feed) a (n + 1) x.text b text.0 first text.1 in
    record {
      item = section.Asm item;
      behind = text.0 + 1;
      same = refl;
      leads = leads_then d n (codes "asm" ++ spaced (owner_text x.owner) ++ feed ++ x.text) b text.0 end_text (closed d.job m (section.Asm item)) (text.0 + 1) one (end_leads d.job m (section.Asm item) text.0);
    }

-- Fills.

one_fill : (d : Draft) (n : ℕ) (f : FillLine) (m : Named) → IsOutside d.place → IsFill f → section_named d.named (section.Fill f) ≡ Some m → One d n (section.Fill f) m
one_fill d n f m out h named =
    let bytes = fit_bytes f.bytes h.bytes in
    let ws = decimal f.thread ∷ decimal f.address ∷ hex_text f.bytes ∷ [] in
    let item = record f { line = n + 1 } in
    let read = hex_read_back f.bytes bytes in
    let few = le-leb (length f.bytes) 4096 h.few in
    let thread = decimal_read_back f.thread h.thread in
    let address = decimal_read_back f.address h.address in
    let head = head_leads d n (codes "fill") ws Fill (section.Fill item) m out (record { bytes = refl; some = refl })
    (decimal_word f.thread h.thread, (decimal_word f.address h.address, (hex_word f.bytes bytes h.some, tt))) refl tt (rw (read, few, thread, address) refl) named in
    let text : codes "fill" ++ flat_map spaced ws ++ feed ≡ fill_text f = ap (λ (xs : List ℕ). xs ++ feed) (sym (spaced_three (codes "fill") (decimal f.thread) (decimal f.address) (hex_text f.bytes))) in
    record { item = section.Fill item; behind = n + 1; same = refl; leads = subst (λ (t : List ℕ). Leads d n t (closed d.job m (section.Fill item)) (n + 1)) text head }

-- Tables.

one_table : (d : Draft) (n : ℕ) (x : TableSection) (m : Named) → IsOutside d.place → IsTable x → section_named d.named (section.Table x) ≡ Some m → One d n (section.Table x) m
one_table d n x m out h named =
    let ws = decimal x.x ∷ decimal x.y ∷ [] in
    let s = record x { line = n + 1; beats = [] } in
    let read = numbers_of-decimals (x.x ∷ x.y ∷ []) (h.x, (h.y, tt)) in
    let head = head_leads d n (codes "table") ws Table (section.Table s) m out (record { bytes = refl; some = refl }) (decimal_word x.x h.x, (decimal_word x.y h.y, tt)) refl tt (rw read refl) named in
    let line : codes "table" ++ flat_map spaced ws ++ feed ≡ codes "table" ++ spaced (decimal x.x) ++ spaced (decimal x.y) ++ feed = ap (λ (xs : List ℕ). xs ++ feed) (sym (spaced_two (codes "table") (decimal x.x) (decimal x.y))) in
    let a = going_on d.job m (section.Table s) in
    let first = subst (λ (t : List ℕ). Leads d n t a (n + 1)) line head in
    let beats = beats_lead x.beats d.job m s (n + 1) h.beats (omega (arith, h.few)) in
    let item = record x { line = n + 1; beats = beats.read } in
    let b = going_on d.job m (section.Table item) in
    let one = leads_then d n (codes "table" ++ spaced (decimal x.x) ++ spaced (decimal x.y) ++ feed) a (n + 1) (flat_map beat_text x.beats) b beats.behind first beats.leads in
    record {
      item = section.Table item;
      behind = beats.behind + 1;
      same = ap (λ (bs : List BeatLine). section.Table (record { line = 0; x = x.x; y = x.y; beats = bs })) beats.same;
      leads = leads_then d n (codes "table" ++ spaced (decimal x.x) ++ spaced (decimal x.y) ++ feed ++ flat_map beat_text x.beats) b beats.behind end_text (closed d.job m (section.Table item)) (beats.behind + 1) one (end_leads d.job m (section.Table item) beats.behind);
    }

-- The host's lines.

script_leads : (d : Draft) (n line : ℕ) (item : ScriptText) (m : Named) → IsOutside d.place → IsScriptText item → section_named d.named (section.Script (record { line = n + 1; item = item })) ≡ Some m
    → Leads d n (script_text (record { line = line; item = item })) (closed d.job m (section.Script (record { line = n + 1; item = item }))) (n + 1)
script_leads d n line Idle m out h named =
    head_leads d n (codes "host") (codes "idle" ∷ []) Host (section.Script (record { line = n + 1; item = Idle })) m out (record { bytes = refl; some = refl }) (record { bytes = refl; some = refl }, tt) refl tt refl named
script_leads d n line (Send thread bytes) m out h named =
    let fit = fit_bytes bytes h.1 in
    let ws = codes "send" ∷ decimal thread ∷ hex_text bytes ∷ [] in
    let item = section.Script (record { line = n + 1; item = Send thread bytes }) in
    let read = hex_read_back bytes fit in
    let number = decimal_read_back thread h.0 in
    let head = head_leads d n (codes "host") ws Host item m out (record { bytes = refl; some = refl })
    (record { bytes = refl; some = refl }, (decimal_word thread h.0, (hex_word bytes fit h.2, tt))) refl tt (rw (read, number) refl) named in
    let text : codes "host" ++ flat_map spaced ws ++ feed ≡ script_text (record { line = line; item = Send thread bytes }) = ap (λ (xs : List ℕ). xs ++ feed) (sym (spaced_three (codes "host") (codes "send") (decimal thread) (hex_text bytes))) in
    subst (λ (t : List ℕ). Leads d n t (closed d.job m item) (n + 1)) text head

one_script : (d : Draft) (n : ℕ) (l : ScriptLine) (m : Named) → IsOutside d.place → IsScript l → section_named d.named (section.Script l) ≡ Some m → One d n (section.Script l) m
one_script d n l m out h named = record { item = section.Script (record l { line = n + 1 }); behind = n + 1; same = refl; leads = script_leads d n l.line l.item m out h named }

-- The graph.

graph_read : (d : Draft) (n : ℕ) (s : TextSection) (m : Named) (head rest : List ℕ) (words : List (List ℕ)) (ns : List ℕ) → IsOutside d.place → IsGraphText s head rest words ns → section_named d.named (section.Graph s) ≡ Some m
    → One d n (section.Graph s) m
graph_read d n s m head rest words ns out g named =
    let x : TextSection = record { line = n + 1; owner = All; text = head ++ feed } in
    let numbers = g.numbers in
    let a = going_on d.job m (section.Graph x) in
    let said : entry_line d (n + 1) head (codes "graph" ∷ words) ≡ Ok a = entry_says d (n + 1) head (codes "graph") words Graph (section.Graph x) m refl tt (rw numbers refl) named in
    let first = leads_content d n head a (λ more. lines_of-unbroken head more g.line.one_line) g.line.plain g.line.content
    (entry_content d (n + 1) head out ∙ ap (entry_line d (n + 1) head) g.words_are ∙ said) in
    let text = whole_text (λ y. section.Graph y) d.job m x (n + 1) rest keeps_graph g.lines in
    let item : TextSection = record { line = n + 1; owner = All; text = head ++ feed ++ rest } in
    let b = going_on d.job m (section.Graph item) in
    let one = leads_then d n (head ++ feed) a (n + 1) rest b text.0 first text.1 in
    let two = leads_then d n (head ++ feed ++ rest) b text.0 end_text (closed d.job m (section.Graph item)) (text.0 + 1) one (end_leads d.job m (section.Graph item) text.0) in
    let is = g.text in
    let owner = g.owner in
    record {
      item = section.Graph item;
      behind = text.0 + 1;
      same = rw (owner, is) refl;
      leads = subst (λ (t : List ℕ). Leads d n (t ++ end_text) (closed d.job m (section.Graph item)) (text.0 + 1)) (sym is) two;
    }

one_section : (d : Draft) (n : ℕ) (s : Section) (m : Named) → IsOutside d.place → IsSection s → section_named d.named s ≡ Some m → One d n s m
one_section d n (section.Code s) m out h named = one_code d n s m out h named
one_section d n (section.Asm s) m out h named = one_asm d n s m out h named
one_section d n (section.Fill f) m out h named = one_fill d n f m out h named
one_section d n (section.Table t) m out h named = one_table d n t m out h named
one_section d n (section.Script l) m out h named = one_script d n l m out h named
one_section d n (section.Graph s) m out h named = graph_read d n s m h.0 h.1 h.2 h.3 out h.4 named

-- Sections one after another.

abbrev pub with_sections : Job → List Section → Job
with_sections job [] = job
with_sections job (s ∷ ss) = with_sections (with_section job s) ss

abbrev pub read_at : Place → Job → Named → Draft
read_at place job named = record { place = place; job = job; named = named }

pub record Read (d : Draft) (n : ℕ) (ss : List Section) (m : Named) : Type 0 where
  pub place : Place
  pub out : IsOutside place
  pub read : List Section
  pub behind : ℕ
  pub same : map section_unlined read ≡ map section_unlined ss
  pub leads : Leads d n (flat_map section_text ss) (read_at place (with_sections d.job read) m) behind

named_first : (ss : List Section) (m : Named) (o : Option Named) → option_and_then (λ more. named_by more ss) o ≡ Some m → (t : Named) × (o ≡ Some t) × (named_by t ss ≡ Some m)
named_first ss m None h = cc
named_first ss m (Some t) h = (t, refl, h)

pub sections_lead : (ss : List Section) (d : Draft) (n : ℕ) (m : Named) → IsOutside d.place → AllByRecursion IsSection ss → named_by d.named ss ≡ Some m → Read d n ss m
sections_lead [] d n m out good named =
    let e : d.named ≡ m = cc in
    record {
      place = d.place;
      out = out;
      read = [];
      behind = n;
      same = refl;
      leads = subst (λ (x : Named). Leads d n [] (read_at d.place d.job x) n) e (leads_none d n);
    }
sections_lead (s ∷ ss) d n m out good named =
    let split = named_first ss m (section_named d.named s) named in
    let first = one_section d n s split.0 out good.0 split.1 in
    let e = closed d.job split.0 first.item in
    let rest = sections_lead ss e first.behind m (inr refl) good.1 split.2 in
    record {
      place = rest.place;
      out = rest.out;
      read = first.item ∷ rest.read;
      behind = rest.behind;
      same = rw (first.same, rest.same) refl;
      leads = leads_then d n (section_text s) e first.behind (flat_map section_text ss) (read_at rest.place (with_sections e.job rest.read) m) rest.behind first.leads rest.leads;
    }
