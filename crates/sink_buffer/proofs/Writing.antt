-- Texts that go through a buffer, one behind the other.
use Rattle.std.proofs.Common.{◌≡◌, ◌≤◌, ℕ, Bool, true, false, List, [], ◌++◌, Option, refl, sym, ap, subst, ◌∙◌, append_assoc, append-nil, arith}
use Rattle.std.specs.Io.KnownBytes.{Appends}
use Rattle.edges.proofs.ToldBytes.{appends_none}
use Rattle.edges.specs.Faults.{Rose}
use Rattle.http_out.specs.Sent.{Sent}
use Rattle.sink_buffer.specs.Buffer.{Buffer, SentBut, SentOr, Writes}

pub writes_both : {a b c : Option (List ℕ)} {m n o : ℕ} {f g h : Buffer} {x y : List ℕ} → Writes a b m n f g x → Writes b c n o g h y → Writes a c m o f h (x ++ y)
writes_both {c = c} {h = h} {x = x} {y = y} first second = record {
  sent = λ old front was. subst (λ t. SentBut old c t h) (append_assoc front x y) (second.sent old (front ++ x) (first.sent old front was));
  counted = omega (arith, first.counted, second.counted);
  rose = λ before le was failed. second.rose before (omega (arith, le, first.counted)) (λ f. first.rose before le was f) failed;
}

pub writes_none : (a : Option (List ℕ)) (m : ℕ) (f : Buffer) → Writes a a m m f f []
writes_none a m f = record {
  sent = λ old front was. subst (λ t. SentBut old a t f) (sym (append-nil front)) was;
  counted = omega arith;
  rose = λ before le was failed. was failed;
}

pub writes_same : {a b : Option (List ℕ)} {m n : ℕ} {f g : Buffer} {x y : List ℕ} → x ≡ y → Writes a b m n f g x → Writes a b m n f g y
writes_same {a = a} {b = b} {m = m} {n = n} {f = f} {g = g} same writes = subst (λ t. Writes a b m n f g t) same writes

-- an empty buffer

all_sent : (failed : Bool) (old taken : Option (List ℕ)) (text rest : List ℕ) → rest ≡ [] → SentOr failed old taken text rest → Sent old taken text failed
all_sent false old taken text rest none was = subst (λ t. Appends old taken t) (sym (was.whole ∙ ap (λ r. was.front ++ r) none ∙ append-nil was.front)) was.taken
all_sent true old taken text rest none was = was

none_left : (fails : Bool) (old now : Option (List ℕ)) (text rest : List ℕ) → rest ≡ [] → Sent old now text fails → SentOr fails old now text rest
none_left false old now text rest none sent = record { front = text; taken = sent; whole = sym (ap (λ r. text ++ r) none ∙ append-nil text) }
none_left true old now text rest none sent = sent

-- bytes that go straight to the sink, past an empty buffer
pub goes_past : (taken now : Option (List ℕ)) (count later : ℕ) (buffer : Buffer) (fails : Bool) (rest bytes : List ℕ) → buffer.bytes ≡ [] → rest ≡ []
    → ((old : Option (List ℕ)) (text : List ℕ) → Sent old taken text buffer.failed → Sent old now (text ++ bytes) fails) → count ≤ later
    → ((before : ℕ) → before ≤ count → (buffer.failed ≡ true → Rose before count) → fails ≡ true → Rose before later)
    → Writes taken now count later buffer (record { bytes = rest; failed = fails }) bytes
goes_past taken now count later buffer fails rest bytes empty none sent counted rose = record {
  sent = λ old front was. none_left fails old now (front ++ bytes) rest none (sent old front (all_sent buffer.failed old taken front buffer.bytes empty was));
  counted = counted;
  rose = rose;
}

-- what was gathered goes to the sink

sent_on : (failed fails : Bool) (old taken now : Option (List ℕ)) (text bytes : List ℕ) → ((front : List ℕ) → Sent old taken front failed → Sent old now (front ++ bytes) fails)
    → (failed ≡ true → (now ≡ taken) × (fails ≡ true)) → SentOr failed old taken text bytes → SentOr fails old now text []
sent_on false fails old taken now text bytes sent over was = none_left fails old now text [] refl (subst (λ t. Sent old now t fails) (sym was.whole) (sent was.front was.taken))
sent_on true fails old taken now text bytes sent over was =
    let stays = over refl in
    let there : Sent old now text true = subst (λ t. Sent old t text true) (sym stays.0) was in
    none_left fails old now text [] refl (subst (λ f. Sent old now text f) (sym stays.1) there)

pub goes_on : (taken now : Option (List ℕ)) (count later : ℕ) (buffer : Buffer) (fails : Bool) (rest : List ℕ) → rest ≡ []
    → ((old : Option (List ℕ)) (text : List ℕ) → Sent old taken text buffer.failed → Sent old now (text ++ buffer.bytes) fails)
    → (buffer.failed ≡ true → (now ≡ taken) × (fails ≡ true)) → count ≤ later
    → ((before : ℕ) → before ≤ count → (buffer.failed ≡ true → Rose before count) → fails ≡ true → Rose before later)
    → Writes taken now count later buffer (record { bytes = rest; failed = fails }) []
goes_on taken now count later buffer fails rest none sent over counted rose = record {
  sent = λ old front was.
      subst (λ r. SentOr fails old now (front ++ []) r) (sym none)
      (subst (λ t. SentOr fails old now t []) (sym (append-nil front)) (sent_on buffer.failed fails old taken now front buffer.bytes (sent old) over was));
  counted = counted;
  rose = rose;
}

-- a whole text, which begins with an empty buffer

pub whole_sent : {old mid : Option (List ℕ)} {m n : ℕ} {empty buffer : Buffer} {text : List ℕ} (new : Option (List ℕ)) (fails : Bool) → empty ≡ record { bytes = []; failed = false } → Writes old mid m n empty buffer text
    → (SentBut old mid text buffer → Sent old new text fails) → Sent old new text fails
whole_sent {old = old} new fails is writes finished = finished (writes.sent old [] (subst (λ b. SentBut old old [] b) (sym is) (record { front = []; taken = appends_none old; whole = refl })))

pub whole_rose : {old mid : Option (List ℕ)} {m n : ℕ} {empty buffer : Buffer} {text : List ℕ} → empty ≡ record { bytes = []; failed = false } → Writes old mid m n empty buffer text
    → buffer.failed ≡ true → Rose m n
whole_rose {m = m} is writes broke = writes.rose m (omega arith) (λ failed. absurd (cc)) broke
