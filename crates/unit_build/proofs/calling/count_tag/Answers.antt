use Rattle.std.proofs.Common.{◌≡◌, ◌∙◌, ◌∷◌, [], ap, length}
use Rattle.pg_text.specs.declared.translation_fault.TranslationFault.TheVariants as fault
use Rattle.unit_source.specs.Files.{text_in}
use Rattle.unit_words.specs.declared.counts.Counted.TheVariants.{Within, Passes, Over}
use Rattle.unit_words.specs.Counts.{counted, counts_behind}
use Rattle.unit_build.proofs.CalledLemmas.{call_after}
use Rattle.unit_build.proofs.OkLemmas.{if_ok}
use Rattle.unit_build.proofs.calling.count_tag.Goals as goal

pub returns-in-Within : goal.returns-in-Within
returns-in-Within c =
    let counts = c.args.found.now.counts in
    let behind : c.count.new.self ≡ counts_behind (length c.args.text.now) counts = c.count.ensures.counts ∙ ap (λ n. counts_behind n counts) c.len.ensures in
    let count : Within ≡ counted (length c.args.text.now) counts = c.in-Within.ensures.value ∙ ap (λ n. counted n counts) c.len.ensures in
    if_ok c.enter_tag.result c.enter_tag.ensures
    (λ answer is before at_path. call_after (text_in c.args.found.now.site) before c.args.path.now c.args.text.now c.count.new.self Within behind count (is before at_path))

pub returns-in-Passes : goal.returns-in-Passes
returns-in-Passes c =
    let counts = c.args.found.now.counts in
    let behind : c.count.new.self ≡ counts_behind (length c.args.text.now) counts = c.count.ensures.counts ∙ ap (λ n. counts_behind n counts) c.len.ensures in
    let count : Passes ≡ counted (length c.args.text.now) counts = c.in-Passes.ensures.value ∙ ap (λ n. counted n counts) c.len.ensures in
    if_ok c.refuse.result c.refuse.ensures
    (λ answer is before at_path. call_after (text_in c.args.found.now.site) before c.args.path.now c.args.text.now c.count.new.self Passes behind count (is before (fault.TooLarge ∷ []) c.one.ensures))

pub returns-in-Over : goal.returns-in-Over
returns-in-Over c =
    let counts = c.args.found.now.counts in
    let behind : c.count.new.self ≡ counts_behind (length c.args.text.now) counts = c.count.ensures.counts ∙ ap (λ n. counts_behind n counts) c.len.ensures in
    let count : Over ≡ counted (length c.args.text.now) counts = c.in-Over.ensures.value ∙ ap (λ n. counted n counts) c.len.ensures in
    if_ok c.refuse-in-Over.result c.refuse-in-Over.ensures
    (λ answer is before at_path. call_after (text_in c.args.found.now.site) before c.args.path.now c.args.text.now c.count.new.self Over behind count (is before [] c.none.ensures))
