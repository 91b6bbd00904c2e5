-- The part of an inform's bytes before its seal is what the seal covers. Assumes nothing.
use Rattle.std.proofs.Common.{◌≡◌, ℕ, ◌+◌, ◌-◌, List, ◌++◌, length, take, sym, ap, ◌∙◌, arith, length-append}
use Rattle.std.proofs.lemmas.List.{take_at}
use Rattle.records.specs.Numbers.{put}
use Rattle.records.specs.Statements.{covered, rest_bytes}
use Rattle.records.specs.Writing.{record_bytes}
use Rattle.records.specs.declared.arrivals.Inform.{Inform}
use Rattle.records.specs.declared.arrivals.Record.TheVariants as rec
use Rattle.records.proofs.Covered.{split_own}
use Rattle.codec.proofs.Numbers.{put_length}

inform_split : (i : Inform) → record_bytes (rec.Inform i) ≡ covered (rec.Inform i) ++ put 8 i.seal
unfolding rest_bytes
inform_split i = split_own (rec.Inform i)

pub inform_long : (i : Inform) (bs : List ℕ) → record_bytes (rec.Inform i) ≡ bs → length bs ≡ length (covered (rec.Inform i)) + 8
inform_long i bs e =
    let l = ap length (sym e ∙ inform_split i) in
    let a = length-append (covered (rec.Inform i)) (put 8 i.seal) in
    let p = put_length 8 i.seal in
    omega arith

pub covered_part : (i : Inform) (bs : List ℕ) → record_bytes (rec.Inform i) ≡ bs → take (length bs - 8) bs ≡ covered (rec.Inform i)
covered_part i bs e =
    let b : bs ≡ covered (rec.Inform i) ++ put 8 i.seal = sym e ∙ inform_split i in
    let l = inform_long i bs e in
    let k : length (covered (rec.Inform i)) ≡ length bs - 8 = omega arith in
    ap (take (length bs - 8)) b ∙ take_at (covered (rec.Inform i)) (put 8 i.seal) (length bs - 8) k
