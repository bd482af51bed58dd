use Rattle.std.proofs.Common.{◌≡◌, ◌∙◌, ap, sym, refl, Some, None, option_copied}
use Rattle.job_faults.specs.Code.{is_all, is_tile, words_by}
use Rattle.job_faults.proofs.Faults.{words_back, words_front}
use Rattle.job_faults.proofs.code.code_of.Goals as goal

pub returns-in-Some : goal.returns-in-Some
returns-in-Some c =
    let own : words_by (is_tile c.args.tile.0) c.args.codes.now ≡ Some c.in-Some.words.now = sym c.own_code.ensures ∙ ap option_copied c.in-Some.is in
    rw (words_front (is_tile c.args.tile.0) c.args.codes.now c.args.asms.now c.in-Some.words.now own) refl

pub returns-in-Some-own_code : goal.returns-in-Some-own_code
returns-in-Some-own_code c =
    let none : words_by (is_tile c.args.tile.0) c.args.codes.now ≡ None = sym c.own_code.ensures ∙ ap option_copied c.in_default.is in
    let own : words_by (is_tile c.args.tile.0) c.args.asms.now ≡ Some c.in-Some-own_code.words.now = sym c.own_code-2.ensures ∙ ap option_copied c.in-Some-own_code.is in
    rw (words_back (is_tile c.args.tile.0) c.args.codes.now c.args.asms.now none, own) refl

pub returns-in-Some-common_code : goal.returns-in-Some-common_code
returns-in-Some-common_code c =
    let none : words_by (is_tile c.args.tile.0) c.args.codes.now ≡ None = sym c.own_code.ensures ∙ ap option_copied c.in_default.is in
    let none' : words_by (is_tile c.args.tile.0) c.args.asms.now ≡ None = sym c.own_code-2.ensures ∙ ap option_copied c.in_default-own_code.is in
    let common : words_by is_all c.args.codes.now ≡ Some c.in-Some-common_code.words.now = sym c.common_code.ensures ∙ ap option_copied c.in-Some-common_code.is in
    rw (
      words_back (is_tile c.args.tile.0) c.args.codes.now c.args.asms.now none,
      none',
      words_front is_all c.args.codes.now c.args.asms.now c.in-Some-common_code.words.now common,
    ) refl

pub returns-in-Some-common_code-2 : goal.returns-in-Some-common_code-2
returns-in-Some-common_code-2 c =
    let none : words_by (is_tile c.args.tile.0) c.args.codes.now ≡ None = sym c.own_code.ensures ∙ ap option_copied c.in_default.is in
    let none' : words_by (is_tile c.args.tile.0) c.args.asms.now ≡ None = sym c.own_code-2.ensures ∙ ap option_copied c.in_default-own_code.is in
    let common : words_by is_all c.args.codes.now ≡ None = sym c.common_code.ensures ∙ ap option_copied c.in_default-common_code.is in
    let common' : words_by is_all c.args.asms.now ≡ Some c.in-Some-common_code-2.words.now = sym c.common_code-2.ensures ∙ ap option_copied c.in-Some-common_code-2.is in
    rw (words_back (is_tile c.args.tile.0) c.args.codes.now c.args.asms.now none, none', words_back is_all c.args.codes.now c.args.asms.now common, common') refl

pub returns-in-None : goal.returns-in-None
returns-in-None c =
    let none : words_by (is_tile c.args.tile.0) c.args.codes.now ≡ None = sym c.own_code.ensures ∙ ap option_copied c.in_default.is in
    let none' : words_by (is_tile c.args.tile.0) c.args.asms.now ≡ None = sym c.own_code-2.ensures ∙ ap option_copied c.in_default-own_code.is in
    let common : words_by is_all c.args.codes.now ≡ None = sym c.common_code.ensures ∙ ap option_copied c.in_default-common_code.is in
    let common' : words_by is_all c.args.asms.now ≡ None = sym c.common_code-2.ensures ∙ ap option_copied c.in-None.is in
    rw (words_back (is_tile c.args.tile.0) c.args.codes.now c.args.asms.now none, none', words_back is_all c.args.codes.now c.args.asms.now common, common') refl
