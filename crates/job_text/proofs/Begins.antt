-- The section that begins on a line is one that a job may have.
use Rattle.std.proofs.Common.{◌≡◌, ℕ, ◌+◌, ◌^◌, ◌<◌, ◌≤◌, Bool, true, false, eqb, leb, cond, List, [], ◌∷◌, ◌++◌, Option, Some, None, length, codes, refl, sym, ap, subst, ◌∙◌, ⊎_elim, arith, append-nil}
use Rattle.std.specs.declared.result.Result.{Result}
use Rattle.std.specs.declared.result.Result.TheVariants.{Ok, Err}
use Rattle.std.specs.List.{AllByRecursion, slice_index}
use Rattle.std.specs.Str.{bytes_eq}
use Rattle.std.proofs.lemmas.Bool.{cases_Bool, leb-true, eqb-true, and_parts}
use Rattle.tn_text.specs.Hex.{hex_bytes_of}
use Rattle.tn_text.specs.Lines.{lines_of, feed}
use Rattle.tn_text.specs.NumberLists.{numbers_in, numbers_of}
use Rattle.tn_text.specs.Numbers.{number_of}
use Rattle.tn_text.specs.Words.{is_some_text, words_of, one_of, two_of, three_of}
use Rattle.job_text.specs.declared.job.JobKind.{JobKind}
use Rattle.job_text.specs.declared.job.JobKind.TheVariants.{BadLine}
use Rattle.job_text.specs.declared.job.Owner.{Owner}
use Rattle.job_text.specs.declared.job.Owner.TheVariants.{All, Tile}
use Rattle.job_text.specs.declared.job.ScriptText.TheVariants.{Send}
use Rattle.job_text.specs.declared.job.TextSection.{TextSection}
use Rattle.job_text.specs.declared.job.Section.{Section}
use Rattle.job_text.specs.declared.job.Section.TheVariants as section
use Rattle.job_text.specs.declared.keyword.Keyword.{Keyword}
use Rattle.job_text.specs.declared.keyword.Keyword.TheVariants.{Number, Code, Asm, Fill, Table, Host, Graph}
use Rattle.job_text.specs.declared.keyword.Setting.TheVariants.{Slots, Link, Mem, Fuel, Turn}
use Rattle.job_text.specs.Arguments.{◌>>=◌, given, tile_owner, owner_by, owner_in, pair_in}
use Rattle.job_text.specs.Keyword.{keyword_of}
use Rattle.job_text.specs.SectionLines.{code_head, asm_head, table_head, graph_head, fill_bytes, fill_by, scripted, send_bytes, send_by, idle_line, host_line, section_begun}
use Rattle.job_text.specs.WellFormed.{IsOwner, IsTextLine, IsSection}
use Rattle.job_text.proofs.Bytes.{one_fits, numbers_fit, numbers_in_fit, given_is, index_fits, bytes_fit, bytes_some}
use Rattle.job_text.proofs.WholeLines.{no_text, one_more}

-- the words of a line, none of them empty
abbrev pub AreSome : List (List ℕ) → Type 0
AreSome ws = AllByRecursion (λ w. is_some_text w ≡ true) ws

-- a section of assembly ends on one of so many lines
pub record Within (n : ℕ) (s : TextSection) : Type 0 where
  pub end : s.line + length (lines_of s.text) ≤ n

-- the text of a graph begins with the line of the section
pub record GraphWithin (n : ℕ) (s : TextSection) : Type 0 where
  pub end : s.line + length (lines_of s.text) ≤ n + 1

abbrev pub IsWithin : ℕ → Section → Type 0
IsWithin n (section.Asm s) = Within n s
IsWithin n (section.Graph s) = GraphWithin n s
IsWithin n _ = Unit {0}

-- what holds of a section that is read so far, behind so many lines
pub record SectionIs (n : ℕ) (s : Section) : Type 0 where
  pub good : IsSection s
  pub within : IsWithin n s

ok_is : {n : ℕ} (s t : Section) → SectionIs n s → ◌≡◌ {A = Result Section JobKind} (Ok s) (Ok t) → SectionIs n t
ok_is {n = n} s t h e = let same : s ≡ t = cc in subst (λ (x : Section). SectionIs n x) same h

pub bind_ok : {A B : Type 0} (r : Result A JobKind) (f : A → Result B JobKind) (y : B) → (r >>= f) ≡ Ok y → (x : A) × (r ≡ Ok x) × (f x ≡ Ok y)
bind_ok (Ok x) f y h = (x, refl, h)
bind_ok (Err kind) f y h = cc

-- Heads.

pub given_fit : (n : ℕ) (ws : List (List ℕ)) (ns : List ℕ) → given (numbers_in n ws) ≡ Ok ns → AllByRecursion (λ k. k < 2 ^ 32) ns
given_fit n ws ns h = numbers_in_fit n ws ns (given_is (numbers_in n ws) ns h)

tile_is : (r : Result ℕ JobKind) (o : Owner) → ((n : ℕ) → r ≡ Ok n → n < 2 ^ 32) → tile_owner r ≡ Ok o → IsOwner o
tile_is (Ok n) o fit h = let e : o ≡ Tile n = cc in rw e (fit n refl)
tile_is (Err kind) o fit h = cc

owner_is : (x : Option (List ℕ)) (o : Owner) → owner_by x ≡ Ok o → IsOwner o
owner_is None o h = cc
owner_is (Some w) o h =
    ⊎_elim (λ e. let k : Ok All ≡ Ok o = rw e at h in let f : o ≡ All = cc in rw f tt)
    (λ e. let k : tile_owner (given (number_of w)) ≡ Ok o = rw e at h in tile_is (given (number_of w)) o (λ n g. one_fits (number_of w) w n refl g) k)
    (cases_Bool (bytes_eq w (codes "all")))

begins_code : (n : ℕ) (ws : List (List ℕ)) (t : Section) → code_head n ws ≡ Ok t → SectionIs n t
begins_code n ws t h =
    let b = bind_ok (owner_in ws) (λ o. Ok (section.Code (record { line = n; owner = o; words = [] }))) t h in
    ok_is _ t (record { good = record { owner = owner_is (one_of ws) b.0 b.1; words = tt; few = omega arith }; within = tt }) b.2

begins_asm : (n : ℕ) (ws : List (List ℕ)) (t : Section) → asm_head n ws ≡ Ok t → SectionIs n t
begins_asm n ws t h =
    let b = bind_ok (owner_in ws) (λ o. Ok (section.Asm (record { line = n; owner = o; text = [] }))) t h in
    ok_is _ t (record { good = record { owner = owner_is (one_of ws) b.0 b.1; text = no_text }; within = record { end = omega arith } }) b.2

begins_table : (n : ℕ) (ws : List (List ℕ)) (t : Section) → table_head n ws ≡ Ok t → SectionIs n t
begins_table n ws t h =
    let b = bind_ok (given (numbers_in 2 ws)) (λ ns. Ok (section.Table (record { line = n; x = slice_index ns 0; y = slice_index ns 1; beats = [] }))) t h in
    let fit = given_fit 2 ws b.0 b.1 in
    ok_is _ t (record { good = record { x = index_fits b.0 0 fit; y = index_fits b.0 1 fit; beats = tt; few = omega arith }; within = tt }) b.2

pub same_bytes : (xs ys : List ℕ) → bytes_eq xs ys ≡ true → xs ≡ ys
same_bytes [] [] h = refl
same_bytes [] (y ∷ ys) h = cc
same_bytes (x ∷ xs) [] h = cc
same_bytes (x ∷ xs) (y ∷ ys) h =
    let both = and_parts (eqb x y) (bytes_eq xs ys) h in
    let first = eqb-true x y both.0 in
    let more = same_bytes xs ys both.1 in
    rw (first, more) refl

another : (b : Bool) (k : Keyword) (y : Option Keyword) → (Some k ≡ Some Graph → ⊥) → cond b (Some k) y ≡ Some Graph → y ≡ Some Graph
another true k y no_graph h = absurd (no_graph h)
another false k y no_graph h = h

the_last : (b : Bool) → cond b (Some Graph) None ≡ Some Graph → b ≡ true
the_last true h = refl
the_last false h = cc

graph_word : (w : List ℕ) → keyword_of w ≡ Some Graph → w ≡ codes "graph"
graph_word w h =
    let a = another (bytes_eq w (codes "slots")) (Number Slots) _ (λ e. cc) h in
    let b = another (bytes_eq w (codes "link")) (Number Link) _ (λ e. cc) a in
    let c = another (bytes_eq w (codes "mem")) (Number Mem) _ (λ e. cc) b in
    let d = another (bytes_eq w (codes "fuel")) (Number Fuel) _ (λ e. cc) c in
    let e = another (bytes_eq w (codes "turn")) (Number Turn) _ (λ e. cc) d in
    let f = another (bytes_eq w (codes "code")) Code _ (λ e. cc) e in
    let g = another (bytes_eq w (codes "asm")) Asm _ (λ e. cc) f in
    let i = another (bytes_eq w (codes "fill")) Fill _ (λ e. cc) g in
    let j = another (bytes_eq w (codes "table")) Table _ (λ e. cc) i in
    let k = another (bytes_eq w (codes "host")) Host _ (λ e. cc) j in
    same_bytes w (codes "graph") (the_last (bytes_eq w (codes "graph")) k)

goes_by : (l w : List ℕ) (ws : List (List ℕ)) (b : Bool) → bytes_eq l (codes "end") ≡ b → words_of l ≡ w ∷ ws → keyword_of w ≡ Some Graph → b ≡ false
goes_by l w ws false e is key = refl
goes_by l w ws true e is key =
    let same = same_bytes l (codes "end") e in
    let ends : codes "end" ∷ [] ≡ w ∷ ws = rw same at is in
    let word : w ≡ codes "end" = cc in
    let none : keyword_of (codes "end") ≡ Some Graph = rw word at key in cc

pub goes_on : (l w : List ℕ) (ws : List (List ℕ)) → words_of l ≡ w ∷ ws → keyword_of w ≡ Some Graph → bytes_eq l (codes "end") ≡ false
goes_on l w ws is key = goes_by l w ws (bytes_eq l (codes "end")) refl is key

begins_graph : (n : ℕ) (l : List ℕ) (ws : List (List ℕ)) (t : Section) → IsTextLine l → words_of l ≡ codes "graph" ∷ ws → graph_head n l ws ≡ Ok t → SectionIs n t
begins_graph n l ws t line is h =
    let b = bind_ok (given (numbers_in 2 ws)) (λ ns. Ok (section.Graph (record { line = n; owner = All; text = l ++ 10 ∷ [] }))) t h in
    ok_is _ t (record {
      good = (l, [], ws, b.0, record { owner = refl; text = sym (append-nil (l ++ feed)); line = line; words_are = is; numbers = given_is (numbers_in 2 ws) b.0 b.1; lines = no_text });
      within = record { end = omega (arith, one_more [] l 0 line (omega arith)) };
    }) b.2

-- Sections of one line.

pair_by : (r : Result (List ℕ) JobKind) (p : ℕ × ℕ) → ((ns : List ℕ) → r ≡ Ok ns → AllByRecursion (λ k. k < 2 ^ 32) ns) → pair_in r ≡ Ok p → (p.0 < 2 ^ 32) × (p.1 < 2 ^ 32)
pair_by (Ok ns) p fit h =
    let e : (slice_index ns 0, slice_index ns 1) ≡ p = cc in
    subst (λ (q : ℕ × ℕ). (q.0 < 2 ^ 32) × (q.1 < 2 ^ 32)) e (index_fits ns 0 (fit ns refl), index_fits ns 1 (fit ns refl))
pair_by (Err kind) p fit h = cc

pair_fits : (a b : List ℕ) (p : ℕ × ℕ) → pair_in (given (numbers_of (a ∷ b ∷ []))) ≡ Ok p → (p.0 < 2 ^ 32) × (p.1 < 2 ^ 32)
pair_fits a b p h = pair_by (given (numbers_of (a ∷ b ∷ []))) p (λ ns e. numbers_fit (a ∷ b ∷ []) ns (given_is (numbers_of (a ∷ b ∷ [])) ns e)) h

fill_is : (o : Option (List ℕ)) (bytes : List ℕ) → fill_bytes o ≡ Ok bytes → (o ≡ Some bytes) × (length bytes ≤ 4096)
fill_is None bytes h = cc
fill_is (Some xs) bytes h =
    ⊎_elim (λ e. let k : Ok xs ≡ Ok bytes = rw e at h in let same : xs ≡ bytes = cc in (ap (λ (x : List ℕ). Some x) same, rw (← same) (leb-true (length xs) 4096 e)))
    (λ e. let k : Err BadLine ≡ Ok bytes = rw e at h in cc) (cases_Bool (leb (length xs) 4096))

send_is : (o : Option (List ℕ)) (bytes : List ℕ) → send_bytes o ≡ Ok bytes → o ≡ Some bytes
send_is None bytes h = cc
send_is (Some xs) bytes h = let same : xs ≡ bytes = cc in ap (λ (x : List ℕ). Some x) same

begins_fill : (n : ℕ) (ws : List (List ℕ)) (t : Section) → AreSome ws → fill_by n (three_of ws) ≡ Ok t → SectionIs n t
begins_fill n (a ∷ b ∷ x ∷ []) t some h =
    let first = bind_ok (fill_bytes (hex_bytes_of x)) (λ bytes. pair_in (given (numbers_of (a ∷ b ∷ []))) >>= λ ns. Ok _) t h in
    let bytes = fill_is (hex_bytes_of x) first.0 first.1 in
    let next = bind_ok (pair_in (given (numbers_of (a ∷ b ∷ [])))) (λ ns. Ok _) t first.2 in
    let fit = pair_fits a b next.0 next.1 in
    ok_is _ t (record {
      good = record { thread = fit.0; address = fit.1; bytes = bytes_fit x first.0 bytes.0; some = bytes_some x first.0 some.1.1.0 bytes.0; few = bytes.1 };
      within = tt;
    }) next.2
begins_fill n _ t some h = cc

begins_send : (n : ℕ) (ws : List (List ℕ)) (t : Section) → AreSome ws → send_by n (two_of ws) ≡ Ok t → SectionIs n t
begins_send n (a ∷ x ∷ []) t some h =
    let first = bind_ok (send_bytes (hex_bytes_of x)) (λ bytes. given (number_of a) >>= λ thread. Ok (scripted n (Send thread bytes))) t h in
    let bytes = send_is (hex_bytes_of x) first.0 first.1 in
    let next = bind_ok (given (number_of a)) (λ thread. Ok (scripted n (Send thread first.0))) t first.2 in
    let fit = one_fits (number_of a) a next.0 refl next.1 in
    ok_is _ t (record { good = (fit, bytes_fit x first.0 bytes, bytes_some x first.0 some.1.0 bytes); within = tt }) next.2
begins_send n _ t some h = cc

begins_idle : (n : ℕ) (ws : List (List ℕ)) (t : Section) → idle_line n ws ≡ Ok t → SectionIs n t
begins_idle n [] t h = ok_is _ t (record { good = tt; within = tt }) h
begins_idle n (w ∷ ws) t h = cc

begins_said : (n : ℕ) (w : List ℕ) (ws : List (List ℕ)) (t : Section) → AreSome ws → cond (bytes_eq w (codes "send")) (send_by n (two_of ws)) (Err BadLine) ≡ Ok t → SectionIs n t
begins_said n w ws t some h =
    ⊎_elim (λ f. let k : send_by n (two_of ws) ≡ Ok t = rw f at h in begins_send n ws t some k)
    (λ f. let k : Err BadLine ≡ Ok t = rw f at h in cc) (cases_Bool (bytes_eq w (codes "send")))

begins_host : (n : ℕ) (ws : List (List ℕ)) (t : Section) → AreSome ws → host_line n ws ≡ Ok t → SectionIs n t
begins_host n [] t some h = cc
begins_host n (w ∷ ws) t some h =
    ⊎_elim (λ f. let k : idle_line n ws ≡ Ok t = rw f at h in begins_idle n ws t k)
    (λ f. let k : cond (bytes_eq w (codes "send")) (send_by n (two_of ws)) (Err BadLine) ≡ Ok t = rw f at h in begins_said n w ws t some.1 k) (cases_Bool (bytes_eq w (codes "idle")))

-- a line whose first word is the keyword
pub begins : (n : ℕ) (l w : List ℕ) (ws : List (List ℕ)) (key : Keyword) (t : Section) → keyword_of w ≡ Some key → words_of l ≡ w ∷ ws → AreSome ws → (keyword_of w ≡ Some Graph → IsTextLine l)
    → section_begun n l key ws ≡ Ok t → SectionIs n t
begins n l w ws (Number s) t key is some line h = cc
begins n l w ws Code t key is some line h = begins_code n ws t h
begins n l w ws Asm t key is some line h = begins_asm n ws t h
begins n l w ws Fill t key is some line h = begins_fill n ws t some h
begins n l w ws Table t key is some line h = begins_table n ws t h
begins n l w ws Host t key is some line h = begins_host n ws t some h
begins n l w ws Graph t key is some line h = begins_graph n l ws t (line key) (is ∙ ap (λ (x : List ℕ). x ∷ ws) (graph_word w key)) h
