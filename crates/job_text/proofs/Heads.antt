-- The header, the shape and the settings, as they are printed, are read again.
use Rattle.std.proofs.Common.{◌≡◌, ◌⊎◌, ℕ, ◌+◌, ◌^◌, ◌<◌, true, eqb, List, [], ◌∷◌, ◌++◌, Some, map, flat_map, codes, refl, sym, ap, subst, ◌∙◌, ⊎_elim, inl, arith, append_assoc}
use Rattle.std.specs.declared.result.Result.TheVariants.{Ok}
use Rattle.std.specs.Fmt.{decimal}
use Rattle.std.specs.List.{AllByRecursion}
use Rattle.std.proofs.lemmas.Fmt.{decimal_digit}
use Rattle.tn_text.specs.declared.numbers.Numeral.TheVariants.{Value}
use Rattle.tn_text.specs.NumberLists.{numbers_of}
use Rattle.tn_text.specs.Words.{spaced}
use Rattle.tn_base.specs.declared.shape.ShapeNumbers.{ShapeNumbers}
use Rattle.tn_text.specs.Lines.{feed}
use Rattle.tn_text.proofs.PrintedWords.{decimal_word}
use Rattle.tn_text.proofs.Printed.{decimal_read_back}
use Rattle.job_text.specs.declared.keyword.Setting.{Setting}
use Rattle.job_text.specs.declared.keyword.Setting.TheVariants.{Slots, Link, Mem, Fuel, Turn}
use Rattle.job_text.specs.declared.keyword.Keyword.TheVariants.{Number}
use Rattle.job_text.specs.declared.draft.Place.TheVariants.{AtShape, AtSettings}
use Rattle.job_text.specs.declared.draft.Draft.{Draft}
use Rattle.job_text.specs.Keyword.{keyword_of, setting_in, with_setting}
use Rattle.job_text.specs.Printed.{header_text, shape_text, setting_text, settings_text}
use Rattle.job_text.specs.Text.{start, empty_job, default_numbers, all_at, shape_with, header_line, shape_line, entry_line}
use Rattle.tn_text.proofs.Clean.{IsWord, AreWords, line_of_words, words_of-line, spaced_one}
use Rattle.job_text.proofs.Leads.{Leads, leads_then, leads_line, leads_entry}

pub decimal_words : (ns : List ℕ) → AllByRecursion (λ n. n < 2 ^ 32) ns → AreWords (map decimal ns)
decimal_words [] h = tt
decimal_words (n ∷ ns) h = (decimal_word n h.0, decimal_words ns h.1)

pub numbers_of-decimals : (ns : List ℕ) → AllByRecursion (λ n. n < 2 ^ 32) ns → numbers_of (map decimal ns) ≡ Value ns
numbers_of-decimals [] h = refl
numbers_of-decimals (n ∷ ns) h = let here = decimal_read_back n h.0 in let more = numbers_of-decimals ns h.1 in rw (here, more) refl

abbrev pub headed_draft : ℕ → Draft
headed_draft v = record start { place = AtShape 2; job = record empty_job { version = v; numbers = record default_numbers { version = v } } }

tinsel_word : IsWord (codes "tinsel")
tinsel_word = record { bytes = refl; some = refl }

header_by : (v : ℕ) (w : List ℕ) → decimal v ≡ w → IsWord w → header_line start 1 (codes "tinsel" ∷ w ∷ []) ≡ Ok (headed_draft v)
    → Leads start 0 (header_text v) (headed_draft v) 1
header_by v w e h taken =
    let l = codes "tinsel" ++ flat_map spaced (w ∷ []) in
    let leads = leads_line start 0 l (headed_draft v) (line_of_words (codes "tinsel") (w ∷ []) tinsel_word (h, tt))
    (ap (header_line start 1) (words_of-line (codes "tinsel") (w ∷ []) tinsel_word (h, tt)) ∙ taken) in
    let text : l ++ feed ≡ header_text v = rw e (ap (λ (xs : List ℕ). xs ++ feed) (sym (spaced_one (codes "tinsel") w))) in
    subst (λ (t : List ℕ). Leads start 0 t (headed_draft v) 1) text leads

pub header_leads : (v : ℕ) → (v ≡ 1) ⊎ (v ≡ 2) → Leads start 0 (header_text v) (headed_draft v) 1
header_leads v h =
    ⊎_elim (λ e. header_by v (49 ∷ []) (ap decimal e ∙ decimal_digit 1 (omega arith)) (record { bytes = refl; some = refl }) (rw e refl))
    (λ e. header_by v (50 ∷ []) (ap decimal e ∙ decimal_digit 2 (omega arith)) (record { bytes = refl; some = refl }) (rw e refl)) h

abbrev pub shape_list : ShapeNumbers → List ℕ
shape_list n = n.boards_x ∷ n.boards_y ∷ n.tiles_x ∷ n.tiles_y ∷ n.cores ∷ n.threads ∷ []

abbrev pub shaped_draft : ℕ → ShapeNumbers → Draft
shaped_draft v n = record start { place = AtSettings; job = record empty_job { version = v; numbers = shape_with (record default_numbers { version = v }) (shape_list n); number_lines = all_at 2 } }

shape_word : IsWord (codes "shape")
shape_word = record { bytes = refl; some = refl }

spaced_more : (w a : List ℕ) (ws : List (List ℕ)) → w ++ spaced a ++ flat_map spaced ws ≡ w ++ flat_map spaced (a ∷ ws)
spaced_more w a ws = append_assoc w (spaced a) (flat_map spaced ws)

spaced_six : (w a b c d e f : List ℕ) → w ++ spaced a ++ spaced b ++ spaced c ++ spaced d ++ spaced e ++ spaced f ≡ w ++ flat_map spaced (a ∷ b ∷ c ∷ d ∷ e ∷ f ∷ [])
spaced_six w a b c d e f =
    spaced_one (w ++ spaced a ++ spaced b ++ spaced c ++ spaced d ++ spaced e) f
    ∙ spaced_more (w ++ spaced a ++ spaced b ++ spaced c ++ spaced d) e (f ∷ [])
    ∙ spaced_more (w ++ spaced a ++ spaced b ++ spaced c) d (e ∷ f ∷ [])
    ∙ spaced_more (w ++ spaced a ++ spaced b) c (d ∷ e ∷ f ∷ [])
    ∙ spaced_more (w ++ spaced a) b (c ∷ d ∷ e ∷ f ∷ [])
    ∙ spaced_more w a (b ∷ c ∷ d ∷ e ∷ f ∷ [])

pub shape_leads : (v : ℕ) (n : ShapeNumbers) → AllByRecursion (λ k. k < 2 ^ 32) (shape_list n) → Leads (headed_draft v) 1 (shape_text n) (shaped_draft v n) 2
shape_leads v n h =
    let ws = map decimal (shape_list n) in
    let l = codes "shape" ++ flat_map spaced ws in
    let hs = decimal_words (shape_list n) h in
    let numbers = numbers_of-decimals (shape_list n) h in
    let taken : shape_line (headed_draft v) 2 (codes "shape" ∷ ws) ≡ Ok (shaped_draft v n) = rw numbers refl in
    let leads = leads_line (headed_draft v) 1 l (shaped_draft v n) (line_of_words (codes "shape") ws shape_word hs)
    (ap (shape_line (headed_draft v) 2) (words_of-line (codes "shape") ws shape_word hs) ∙ taken) in
    let text : l ++ feed ≡ shape_text n = ap (λ (xs : List ℕ). xs ++ feed)
    (sym (spaced_six (codes "shape") (decimal n.boards_x) (decimal n.boards_y) (decimal n.tiles_x) (decimal n.tiles_y) (decimal n.cores) (decimal n.threads))) in
    subst (λ (t : List ℕ). Leads (headed_draft v) 1 t (shaped_draft v n) 2) text leads

abbrev pub with_set : Draft → ℕ → Setting → ℕ → Draft
with_set d line s value = record d { job = record d.job { numbers = with_setting s value d.job.numbers; number_lines = with_setting s line d.job.number_lines } }

setting_leads : (d : Draft) (n : ℕ) (name : List ℕ) (s : Setting) (value : ℕ) → d.place ≡ AtSettings → keyword_of name ≡ Some (Number s) → IsWord name → value < 2 ^ 32
    → eqb (setting_in s d.job.number_lines) d.job.number_lines.version ≡ true → Leads d n (setting_text name value) (with_set d (n + 1) s value) (n + 1)
setting_leads d n name s value place key word fits free =
    let ws = decimal value ∷ [] in
    let read = decimal_read_back value fits in
    let taken : entry_line d (n + 1) (name ++ flat_map spaced ws) (name ∷ ws) ≡ Ok (with_set d (n + 1) s value) = rw (key, place, read, free) refl in
    let leads = leads_entry d n name ws (with_set d (n + 1) s value) (inl place) word (decimal_word value fits, tt) taken in
    let text : name ++ flat_map spaced ws ++ feed ≡ setting_text name value = ap (λ (xs : List ℕ). xs ++ feed) (sym (spaced_one name (decimal value))) in
    subst (λ (t : List ℕ). Leads d n t (with_set d (n + 1) s value) (n + 1)) text leads

pub record SettingsFit (n : ShapeNumbers) : Type 0 where
  pub slots : n.slots < 2 ^ 32
  pub link : n.link < 2 ^ 32
  pub mem : n.mem < 2 ^ 32
  pub fuel : n.fuel < 2 ^ 32
  pub turn : n.turn < 2 ^ 32

abbrev pub settled : ℕ → ShapeNumbers → Draft
settled v n = with_set (with_set (with_set (with_set (with_set (shaped_draft v n) 3 Slots n.slots) 4 Link n.link) 5 Mem n.mem) 6 Fuel n.fuel) 7 Turn n.turn

pub settings_lead : (v : ℕ) (n : ShapeNumbers) → SettingsFit n → Leads (shaped_draft v n) 2 (settings_text n) (settled v n) 7
settings_lead v n h =
    let a = shaped_draft v n in
    let b = with_set a 3 Slots n.slots in
    let c = with_set b 4 Link n.link in
    let d = with_set c 5 Mem n.mem in
    let e = with_set d 6 Fuel n.fuel in
    let f = with_set e 7 Turn n.turn in
    let slots = setting_leads a 2 (codes "slots") Slots n.slots refl refl (record { bytes = refl; some = refl }) h.slots refl in
    let link = setting_leads b 3 (codes "link") Link n.link refl refl (record { bytes = refl; some = refl }) h.link refl in
    let mem = setting_leads c 4 (codes "mem") Mem n.mem refl refl (record { bytes = refl; some = refl }) h.mem refl in
    let fuel = setting_leads d 5 (codes "fuel") Fuel n.fuel refl refl (record { bytes = refl; some = refl }) h.fuel refl in
    let turn = setting_leads e 6 (codes "turn") Turn n.turn refl refl (record { bytes = refl; some = refl }) h.turn refl in
    let one = leads_then a 2 (setting_text (codes "slots") n.slots) b 3 (setting_text (codes "link") n.link) c 4 slots link in
    let two = leads_then a 2 (setting_text (codes "slots") n.slots ++ setting_text (codes "link") n.link) c 4 (setting_text (codes "mem") n.mem) d 5 one mem in
    let three = leads_then a 2 (setting_text (codes "slots") n.slots ++ setting_text (codes "link") n.link ++ setting_text (codes "mem") n.mem) d 5 (setting_text (codes "fuel") n.fuel) e 6 two fuel in
    leads_then a 2 (setting_text (codes "slots") n.slots ++ setting_text (codes "link") n.link ++ setting_text (codes "mem") n.mem ++ setting_text (codes "fuel") n.fuel) e 6
    (setting_text (codes "turn") n.turn) f 7 three turn
