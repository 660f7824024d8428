-- The head of a response, before a run and behind it.
use Rattle.std.proofs.Common.{◌≡◌, ℕ, Bool, true, false, List, Option, Some, None, refl, sym, ap, ◌∙◌, is_some}
use Rattle.http_out.specs.declared.head.Head.{Head}
use Rattle.http_out.specs.declared.status.Status.{Status}
use Rattle.out_buffer.specs.Held.{Held}
use Rattle.page_meaning.specs.Response.{new_id}
use Rattle.request_pages.specs.Headed.{IsHeaded}
use Rattle.run_stage.specs.Keeping.{KeepsResponse, KeepsSession, head_after, naming}
use Rattle.run_world.specs.declared.around.Around.{Around}

-- a head that names a session, or none
abbrev head_named : Status → Option (List ℕ) → Bool → (named : Option (List ℕ)) → Head
head_named status content_type close named = record { status = status; content_type = content_type; set_cookie = named; location = None; allow = false; close = close }

none_new : (fresh : Bool) → new_id fresh None ≡ None
none_new true = refl
none_new false = refl

named_so : (status : Status) (content_type : Option (List ℕ)) (close : Bool) (id : Option (List ℕ)) (fresh : Bool) → naming (head_named status content_type close None) id fresh ≡ head_named status content_type close (new_id fresh id)
named_so status content_type close (Some id) true = refl
named_so status content_type close (Some id) false = refl
named_so status content_type close None true = refl
named_so status content_type close None false = refl

-- a session that was there is named as before, and one that came to be is named
named_on : (status : Status) (content_type : Option (List ℕ)) (close : Bool) (was : Option (List ℕ)) (had : Bool) (id : Option (List ℕ)) (fresh : Bool) → (is_some was ≡ true → (id ≡ was) × (fresh ≡ had))
    → head_after (head_named status content_type close (new_id had was)) (is_some was) id fresh ≡ head_named status content_type close (new_id fresh id)
named_on status content_type close None had id fresh stays = ap (λ named. naming (head_named status content_type close named) id fresh) (none_new had) ∙ named_so status content_type close id fresh
named_on status content_type close (Some was) had id fresh stays =
    let same = stays refl in
    ap (λ f. head_named status content_type close (new_id f (Some was))) (sym same.1) ∙ ap (λ i. head_named status content_type close (new_id fresh i)) (sym same.0)

-- a run keeps that the head names the session which the request made
pub headed_on : (close shown : Bool) (before now : Around) (old new : Held) → KeepsResponse old new before now → KeepsSession before now → IsHeaded close shown before old → IsHeaded close shown now new
headed_on close shown before now old new response session headed = record {
  status = headed.status;
  content_type = headed.content_type;
  head = response.head ∙ (ap (λ h. head_after h (is_some before.id) now.id now.fresh) headed.head ∙ named_on headed.status headed.content_type close before.id before.fresh now.id now.fresh session.stays);
  shown_is = response.shown ∙ headed.shown_is;
}

-- the same of what has the same session
pub headed_same : (close shown : Bool) (old new : Around) (held : Held) → new.id ≡ old.id → new.fresh ≡ old.fresh → IsHeaded close shown old held → IsHeaded close shown new held
headed_same close shown old new held id fresh headed = record {
  status = headed.status;
  content_type = headed.content_type;
  head = headed.head
      ∙ (ap (λ f. head_named headed.status headed.content_type close (new_id f old.id)) (sym fresh) ∙ ap (λ i. head_named headed.status headed.content_type close (new_id new.fresh i)) (sym id));
  shown_is = headed.shown_is;
}

-- a look changes only the charge
pub headed_looked : (close shown : Bool) (old new : Around) (held : Held) → new ≡ record old { charge = new.charge } → IsHeaded close shown old held → IsHeaded close shown new held
headed_looked close shown old new held same headed = headed_same close shown old new held (ap (λ (a : Around). a.id) same) (ap (λ (a : Around). a.fresh) same) headed
