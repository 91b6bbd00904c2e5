-- What a pen puts one after another is the whole put at once. Assumes nothing.
use Rattle.std.proofs.Common.{◌≡◌, ℕ, ◌+◌, ◌<◌, List, [], ◌++◌, length, get_or, take, drop, IsErrAnd, Ok, Err, Result, sym, refl, ap, ◌∙◌, subst}
use Rattle.std.specs.List.{flat_map, between}
use Rattle.std.proofs.lemmas.Result.{err_from_is_err_and}
use Rattle.std.proofs.lemmas.List.{take_more, flat_map_more, take-append-drop}
use Rattle.std.proofs.lemmas.List.Concat.{flat_map-append}
use Rattle.quorum.specs.declared.refusal.Fault.{Fault}
use Rattle.outbox.specs.declared.pen.Pen.{Pen}
use Rattle.outbox.specs.Trays.{Sent}
use Rattle.outbox.specs.Pens.{Wrote, Stays}
use Rattle.outbox.proofs.Parts.{part_none, part_then, part_stop, part_seen, part_sent, part_unsent}

pub stays_then : {p q r : Pen} → Stays p q → Stays q r → Stays p r
stays_then s t = record { memory = t.memory ∙ s.memory; fill = t.fill ∙ s.fill }

-- nothing
pub wrote_none : (p : Pen) → Wrote p p [] (Ok tt)
wrote_none p = record { stays = record { memory = refl; fill = refl }; written = part_none p.memory.now p.fill.now.used p.inside }

-- a part, and what follows it
pub wrote_then : {p q r : Pen} {xs ys : List ℕ} {u : Unit {0}} {a : Result (Unit {0}) Fault} → Wrote p q xs (Ok u) → Wrote q r ys a → Wrote p r (xs ++ ys) a
wrote_then {p} {q} {r} {xs} {ys} {u} {a} v w = record { stays = stays_then v.stays w.stays; written = part_then v.written w.written }

-- a part without room, which `?` passes on, whatever should follow
pub wrote_fault : {p q : Pen} {xs : List ℕ} {f : Fault} {a : Result (Unit {0}) Fault} (ys : List ℕ) → Wrote p q xs (Err f) → IsErrAnd a (λ e. e ≡ f) → Wrote p q (xs ++ ys) a
wrote_fault {p} {q} {xs} {f} {a} ys v e =
    let is = err_from_is_err_and a e in
    let stop : Wrote p q (xs ++ ys) (Err f) = record { stays = v.stays; written = part_stop ys v.written } in
    subst (λ a. Wrote p q (xs ++ ys) a) (ap Err (sym is.2) ∙ sym is.1) stop

-- the same bytes by another name
pub wrote_as : {p q : Pen} {xs ys : List ℕ} {a : Result (Unit {0}) Fault} → xs ≡ ys → Wrote p q xs a → Wrote p q ys a
wrote_as {p} {q} {xs} {ys} {a} e v = subst (λ bs. Wrote p q bs a) e v

-- what was put is what the memory shows there
pub wrote_seen : {p q : Pen} {xs : List ℕ} {u : Unit {0}} → Wrote p q xs (Ok u) → between p.fill.now.used q.fill.now.used q.memory.now ≡ xs
wrote_seen {p} {q} {xs} {u} v = part_seen v.written

-- a record put whole is sent, with the fill behind it
pub sent_whole : {p q : Pen} {xs : List ℕ} {u : Unit {0}} {m : List ℕ} {used : ℕ} → Wrote p q xs (Ok u) → m ≡ q.memory.now → used ≡ q.fill.now.used → Sent p.memory.now m p.fill.now.used used xs (Ok tt)
sent_whole {p} {q} {xs} {u} {m} {used} v e f = rw (e, f) (part_sent v.written)

-- a record without room, with the fill put back
pub sent_none : {p q : Pen} {xs : List ℕ} {f : Fault} {a : Result (Unit {0}) Fault} {m : List ℕ} {used : ℕ} → Wrote p q xs (Err f) → IsErrAnd a (λ e. e ≡ f) → m ≡ q.memory.now → used ≡ p.fill.now.used → Sent p.memory.now m p.fill.now.used used xs a
sent_none {p} {q} {xs} {f} {a} {m} {used} v passed e back =
    let is = err_from_is_err_and a passed in
    rw (is.1, is.2, e, back) (part_unsent v.written)

-- a loop that puts one part of a list after another
module _ {X : Type 0} (f : X → List ℕ) (xs : List X) where
  step : (i : ℕ) (x : X) → i < length xs → x ≡ get_or xs i x → flat_map f (take (i + 1) xs) ≡ flat_map f (take i xs) ++ f x
  step i x h is =
      ap (flat_map f) (take_more xs i x h)
      ∙ sym (flat_map_more f [] (take i xs) (get_or xs i x))
      ∙ ap (λ y. flat_map f (take i xs) ++ f y) (sym is)

  rest : (i : ℕ) (x : X) → i < length xs → x ≡ get_or xs i x → (flat_map f (take i xs) ++ f x) ++ flat_map f (drop (i + 1) xs) ≡ flat_map f xs
  rest i x h is =
      ap (λ l. l ++ flat_map f (drop (i + 1) xs)) (sym (step i x h is))
      ∙ sym (flat_map-append f (take (i + 1) xs) (drop (i + 1) xs))
      ∙ ap (flat_map f) (take-append-drop (i + 1) xs)

  pub each_more : {p q r : Pen} {i : ℕ} {u v : Unit {0}} (x : X) → Wrote p q (flat_map f (take i xs)) (Ok u) → i < length xs → x ≡ get_or xs i x → Wrote q r (f x) (Ok v) → Wrote p r (flat_map f (take (i + 1) xs)) (Ok v)
  each_more {p} {q} {r} {i} {u} {v} x got h is w = wrote_as (sym (step i x h is)) (wrote_then got w)

  pub each_fault : {p q r : Pen} {i : ℕ} {u : Unit {0}} {e : Fault} {a : Result (Unit {0}) Fault} (x : X) → Wrote p q (flat_map f (take i xs)) (Ok u) → i < length xs → x ≡ get_or xs i x → Wrote q r (f x) (Err e) → IsErrAnd a (λ g. g ≡ e) → Wrote p r (flat_map f xs) a
  each_fault {p} {q} {r} {i} {u} {e} {a} x got h is w passed = wrote_as (rest i x h is) (wrote_fault _ (wrote_then got w) passed)
