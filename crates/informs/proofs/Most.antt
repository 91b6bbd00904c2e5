-- The largest of all counts, one word after another. Assumes nothing.
use Rattle.std.proofs.Common.{◌≡◌, ℕ, suc, ◌+◌, ◌<◌, ◌≤◌, max, fold, Bool, true, false, cond, List, [], ◌∷◌, length, get_or, drop, sym, ap, ◌∙◌, arith}
use Rattle.std.proofs.Math.ListN.{drop_of_length-le}
use Rattle.std.proofs.lemmas.List.{at_drop_more}
use Rattle.tally.specs.Tallies.{has, different, sharers, shared}
use Rattle.informs.specs.declared.alike.Told.{Told}
use Rattle.informs.proofs.Rows.{signed, agrees}

different_low : (xs : List ℕ) → different xs ≤ length xs
different_low [] = omega arith
different_low (x ∷ xs) = go (has x xs) (different_low xs)
  where
    go : (b : Bool) → different xs ≤ length xs → cond b (different xs) (suc (different xs)) ≤ suc (length xs)
    go true h = omega (arith, h)
    go false h = omega (arith, h)

sharers_low : (w : Told) (ws : List Told) → length (sharers signed agrees w ws) ≤ length ws
sharers_low w [] = omega arith
sharers_low w (x ∷ ws) = go (agrees x w) (sharers_low w ws)
  where
    go : (b : Bool) → length (sharers signed agrees w ws) ≤ length ws → length (cond b (signed x ∷ sharers signed agrees w ws) (sharers signed agrees w ws)) ≤ suc (length ws)
    go true h = omega (arith, h)
    go false h = omega (arith, h)

-- the larger of a count so far and one word's
abbrev pub larger : List Told → ℕ → Told → ℕ
larger words m x = max m (shared signed agrees words x)

-- no word is shared by more than there are words
larger_still : (words : List Told) (m : ℕ) (x : Told) → length words ≤ m → larger words m x ≡ m
larger_still words m x h =
    omega (arith, h, different_low (sharers signed agrees x words), sharers_low x words)

larger_turn : (words : List Told) (i m next : ℕ) (d : Told) → i < length words → next ≡ larger words m (get_or words i d) → fold (larger words) m (drop i words) ≡ fold (larger words) next (drop (i + 1) words)
larger_turn words i m next d h e =
    at_drop_more (fold (larger words) m) words i d h
    ∙ ap (λ k. fold (larger words) k (drop (i + 1) words)) (sym e)

pub larger_counted : (words : List Told) (i m k next : ℕ) (d : Told) → i < length words → k ≡ shared signed agrees words (get_or words i d) → next ≡ max m k → fold (larger words) m (drop i words) ≡ fold (larger words) next (drop (i + 1) words)
larger_counted words i m k next d h shares e = larger_turn words i m next d h (e ∙ ap (max m) shares)

pub larger_skipped : (words : List Told) (i m next : ℕ) → i < length words → length words ≤ m → next ≡ m → fold (larger words) m (drop i words) ≡ fold (larger words) next (drop (i + 1) words)
larger_skipped [] i m next h full e = absurd (omega (arith, h))
larger_skipped (w ∷ ws) i m next h full e =
    larger_turn (w ∷ ws) i m next w h (e ∙ sym (larger_still (w ∷ ws) m (get_or (w ∷ ws) i w) full))

pub larger_end : (words : List Told) (i m : ℕ) → length words ≤ i → fold (larger words) m (drop i words) ≡ m
larger_end words i m h = ap (fold (larger words) m) (drop_of_length-le words h)
