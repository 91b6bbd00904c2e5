-- From the last station down, each turn puts one more below those that the mask has.
use Rattle.std.proofs.Common.{rules, ◌≡◌, ℕ, ◌*◌, ◌%◌, ◌^◌, ◌<◌, Bool, true, false, cond, List, [], ◌∷◌, length, is_some, Option, reverse, refl, ap, ◌∙◌, pow-suc, arith}
use Rattle.std.specs.List.{fold}
use Rattle.std.specs.Int.RustNames.{bit_or}
use Rattle.std.proofs.lemmas.Grind.{or_after_shift}
use Rattle.std.proofs.lemmas.List.{reverse-append}
use Rattle.std.proofs.lemmas.List.Sums.{fold_push}
use Rattle.std.proofs.lemmas.Iterator.Adapters.{YieldsList-from_rev_slice}
use Rattle.std.proofs.lemmas.Iterator.Consumers.{fold_from_yields_List}
use Rattle.records.specs.Numbers.{mask_of}
use Rattle.outbox.proofs.certificates.mask_of.Goals as goal

abbrev turn : ℕ → Option ℕ → ℕ
turn mask seal = bit_or (mask * 2 % 65536) (cond (is_some seal) 1 0)

small : (b : Bool) → cond b 1 0 < 2
small true = omega arith
small false = omega arith

below : (seals : List (Option ℕ)) → mask_of seals < 2 ^ length seals
below [] = omega arith
below (seal ∷ seals) =
    let ih = below seals in
    let s = small (is_some seal) in
    rw (pow-suc 2 (length seals)) (omega (arith, ih, s))

folded : (seals : List (Option ℕ)) → mask_of seals < 65536 → fold turn 0 (reverse seals) ≡ mask_of seals
folded [] fits = refl
folded (seal ∷ seals) fits =
    let ih = folded seals (omega arith) in
    let s = small (is_some seal) in
    ap (fold turn 0) (reverse-append (seal ∷ []) seals)
    ∙ fold_push turn 0 (reverse seals) seal
    ∙ ap (λ m. turn m seal) ih
    ∙ or_after_shift (mask_of seals) 2 65536 (cond (is_some seal) 1 0) refl s (omega arith)
    ∙ omega arith

pub returns : goal.returns
returns c =
    let small : mask_of c.args.seals.now < 2 ^ 10 = rw c.told-seals at (below c.args.seals.now) in
    fold_from_yields_List _ turn 0 c.fold.result c.fold.ensures.ran (YieldsList-from_rev_slice c.args.seals.now (search rules)) (λ a x b q k. search rules)
    ∙ folded c.args.seals.now (omega arith)
