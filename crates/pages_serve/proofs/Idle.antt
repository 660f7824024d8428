-- A pass that has no request under way, which is so still behind pictures.
use Rattle.std.proofs.Common.{◌≡◌, ℕ, List, [], ◌∷◌, Option, None, refl, sym, ap, subst, ◌∙◌}
use Rattle.std.proofs.lemmas.List.Sums.{fold-append}
use Rattle.std.specs.List.{fold}
use Rattle.pass_course.specs.Course.{IsIdle}
use Rattle.preview_words.specs.Laws.{GrewByPictures, IsPicture}
use Rattle.site_words.specs.Law.{own, run_of}
use Rattle.site_words.specs.Runs.{run_after}
use Rattle.site_words.specs.Trees.{Each}
use Rattle.site_words.specs.declared.words.Entry.{Entry}
use Rattle.site_words.specs.declared.words.Op.{Op}
use Rattle.site_words.specs.declared.words.Opening.{Opening}
use Rattle.site_words.specs.declared.words.Run.{Run}

abbrev step : Option Run → ℕ × Entry → Option Run
step run e = run_after run e.1.op e.1.reply

picture_keeps : (e : ℕ × Entry) (run : Option Run) → IsPicture e → step run e ≡ run
picture_keeps e run is = subst (λ (o : Op). run_after run o e.1.reply ≡ run) (sym is.op_is) refl

pictures_keep : (entries : List (ℕ × Entry)) (run : Option Run) → Each IsPicture entries → fold step run entries ≡ run
pictures_keep [] run all = refl
pictures_keep (e ∷ entries) run all = ap (λ r. fold step r entries) (picture_keeps e run all.0) ∙ pictures_keep entries run all.1

pictures_rest : (pass : ℕ) (old new : List Entry) → GrewByPictures pass old new → run_of (own pass old) ≡ None → run_of (own pass new) ≡ None
pictures_rest pass old new grew rests =
    ap run_of grew.grown ∙ fold-append step None (own pass old) grew.entries ∙ pictures_keep grew.entries (run_of (own pass old)) grew.pictures ∙ rests

-- a pass of one number on one opening
pub idle_still : (x y : Opening) (pass later : ℕ) (seen : List Entry) → y ≡ x → later ≡ pass → IsIdle x pass seen → IsIdle y later seen
idle_still x y pass later seen same_opening same_pass idle = subst (λ (k : ℕ). IsIdle y k seen) (sym same_pass) (subst (λ (o : Opening). IsIdle o pass seen) (sym same_opening) idle)

-- so a pass that was idle is so behind pictures
pub idle_behind : (x y : Opening) (pass later : ℕ) (old new : List Entry) → y ≡ x → later ≡ pass → GrewByPictures pass old new → IsIdle x pass old → IsIdle y later new
idle_behind x y pass later old new same_opening same_pass grew idle =
    idle_still x y pass later new same_opening same_pass (idle.0, pictures_rest pass old new grew idle.1)
