-- Counting the words of a row is counting the stations that are alike, whatever the tally names. Assumes nothing.
use Rattle.std.proofs.Common.{◌≡◌, ℕ, zero, suc, ◌+◌, ◌-◌, ◌<◌, ◌≤◌, max, fold, Bool, true, false, cond, leb, ◌⊎◌, List, [], ◌∷◌, ◌++◌, length, get_or, map, Some, None, Option, sym, refl, ap, ◌∙◌, subst, inl, inr, ⊎_elim, append_assoc, arith, length-append}
use Rattle.std.specs.Borrow.{Bor}
use Rattle.std.specs.Iterator.{AlwaysYields}
use Rattle.std.specs.Iterator.Adapters.{option_iter_item, option_iter_done, option_iter_steps}
use Rattle.std.specs.List.{flat_map}
use Rattle.std.specs.Option.{option_to_list}
use Rattle.std.proofs.lemmas.Iterator.{YieldsList}
use Rattle.std.proofs.lemmas.Iterator.Consumers.{YieldsList-from_shown}
use Rattle.std.proofs.lemmas.List.{append-nil}
use Rattle.std.proofs.lemmas.Bool.{cond-true, cond-false, lt-leb}
use Rattle.std.proofs.lemmas.Bool.Decides.{nat_tests}
use Rattle.quorum.specs.Figures.{quorum_of}
use Rattle.records.specs.declared.arrivals.Inform.{Inform}
use Rattle.tally.specs.Tallies.{has, different, sharers, shared, Among, Each, Carried, Short, Tallied}
use Rattle.informs.specs.Alike.{alike}
use Rattle.informs.specs.Agreed.{told, told_by, placed_from, placed, supporters, backers, first_backed, said_by, released, agreed_by, most_from, most_alike}
use Rattle.informs.specs.declared.alike.Told.{Told}
use Rattle.informs.specs.declared.agreed.Release.{Release}
use Rattle.informs.specs.Sameness.{alike_decides, alike_back, alike_on}

abbrev pub signed : Told → ℕ
signed t = t.inform.sender

abbrev pub agrees : Told → Told → Bool
agrees t u = alike t.inform u.inform

-- what a row that is placed says of its first place
pub first_of : (n k : ℕ) (i : Inform) (h : List (Option Inform)) → placed_from n k (Some i ∷ h) ≡ true → (i.sender ≡ k) × ((k < n) × (placed_from n (suc k) h ≡ true))
first_of n k i h p = (grind (arith, nat_tests), (grind (arith, nat_tests), grind (arith, nat_tests)))

not_there : (b : Bool) (x s : ℕ) (ss : List ℕ) → (s ≡ x → ⊥) → has x ss ≡ false → has x (cond b (s ∷ ss) ss) ≡ false
not_there true x s ss ne e = grind (arith, nat_tests)
not_there false x s ss ne e = e

-- no station before the row has a word in it
none_below : (n k x : ℕ) (w : Told) (h : List (Option Inform)) → placed_from n k h ≡ true → x < k → has x (sharers signed agrees w (told h)) ≡ false
none_below n k x w [] p l = refl
none_below n k x w (None ∷ h) p l = none_below n (suc k) x w h p (omega arith)
none_below n k x w (Some i ∷ h) p l =
    let f = first_of n k i h p in
    not_there (alike i w.inform) x i.sender (sharers signed agrees w (told h)) (λ e. let s = f.0 in omega arith) (none_below n (suc k) x w h f.1.1 (omega arith))

one_more : (b : Bool) (s : ℕ) (ss : List ℕ) (i : Inform) (is : List Inform) → has s ss ≡ false → different ss ≡ length is → different (cond b (s ∷ ss) ss) ≡ length (cond b (i ∷ is) is)
one_more true s ss i is e d = grind (arith, nat_tests)
one_more false s ss i is e d = d

pub shared_is : (n k : ℕ) (w : Told) (h : List (Option Inform)) → placed_from n k h ≡ true → shared signed agrees (told h) w ≡ backers h w.inform
shared_is n k w [] p = refl
shared_is n k w (None ∷ h) p = shared_is n (suc k) w h p
shared_is n k w (Some i ∷ h) p =
    let f = first_of n k i h p in
    one_more (alike i w.inform) i.sender (sharers signed agrees w (told h)) i (supporters h w.inform)
    (none_below n (suc k) i.sender w h f.1.1 (let s = f.0 in omega arith))
    (shared_is n (suc k) w h f.1.1)

-- a row has at most one word for each station
pub told_few : (n k : ℕ) (h : List (Option Inform)) → placed_from n k h ≡ true → length (told h) ≤ n - k
told_few n k [] p = omega arith
told_few n k (None ∷ h) p = let ih = told_few n (suc k) h p in omega arith
told_few n k (Some i ∷ h) p =
    let f = first_of n k i h p in
    let ih = told_few n (suc k) h f.1.1 in
    let l = f.1.0 in
    omega arith

-- both of two counts that pass the number of words count one and the same inform
abbrev Common : Inform → Inform → Type 0
Common w v = (j : Inform) × ((alike j w ≡ true) × (alike j v ≡ true))

both : (a b : Bool) (i : Inform) (xs ys : List Inform) (k : ℕ) → length xs + length ys ≤ k → ((a ≡ true) × (b ≡ true)) ⊎ (length (cond a (i ∷ xs) xs) + length (cond b (i ∷ ys) ys) ≤ suc k)
both true true i xs ys k h = inl (refl, refl)
both true false i xs ys k h = inr (omega arith)
both false true i xs ys k h = inr (omega arith)
both false false i xs ys k h = inr (omega arith)

meet : (w v : Inform) (h : List (Option Inform)) → Common w v ⊎ (backers h w + backers h v ≤ length (told h))
meet w v [] = inr (omega arith)
meet w v (None ∷ h) = meet w v h
meet w v (Some i ∷ h) =
    ⊎_elim (λ (c : Common w v). inl c)
    (λ (few : backers h w + backers h v ≤ length (told h)).
    ⊎_elim (λ (b : (alike i w ≡ true) × (alike i v ≡ true)). inl (i, b))
    (λ (l : length (cond (alike i w) (i ∷ supporters h w) (supporters h w)) + length (cond (alike i v) (i ∷ supporters h v) (supporters h v)) ≤ suc (length (told h))). inr l)
    (both (alike i w) (alike i v) i (supporters h w) (supporters h v) (length (told h)) few))
    (meet w v h)

abbrev make : ℕ → ℕ → ℕ → Release
make view round result = record { view = view; round = round; result = result }

same_said : (w v : Inform) → alike w v ≡ true → said_by w ≡ said_by v
same_said w v e =
    let s = (alike_decides w v).0 e in
    ap (λ x. make x w.proposal.round w.result) s.0
    ∙ ap (λ x. make v.proposal.view x w.result) s.1.0
    ∙ ap (λ x. make v.proposal.view v.proposal.round x) s.1.1.0

-- a quorum is more than half of a ring
pub more_than_half : (n : ℕ) → 1 ≤ n → n < quorum_of n + quorum_of n
more_than_half n some = omega arith

-- what two quorums say is the same
pub one_say : (n : ℕ) (h : List (Option Inform)) (w v : Inform) → 1 ≤ n → placed n h ≡ true → quorum_of n ≤ backers h w → quorum_of n ≤ backers h v → said_by w ≡ said_by v
one_say n h w v some p a b =
    ⊎_elim (λ (c : Common w v). same_said w v (alike_on w c.0 v (alike_back c.0 w c.1.0) c.1.1))
    (λ (few : backers h w + backers h v ≤ length (told h)).
    let t = told_few n 0 h p in
    let q = more_than_half n some in
    absurd (omega arith))
    (meet w v h)

-- where the word that the tally names stands
pub record Named (n m k s : ℕ) (all h : List (Option Inform)) : Type 0 where
  pub place : ℕ
  pub word : Inform
  pub stands : get_or h place None ≡ Some word
  pub is : k + place ≡ s
  pub low : s < n
  pub backed : m ≤ backers all word

one_on : (n m k s : ℕ) (all h : List (Option Inform)) (o : Option Inform) → Named n m (suc k) s all h → Named n m k s all (o ∷ h)
one_on n m k s all h o c = record
    { place = suc c.place; word = c.word; stands = c.stands; is = let i = c.is in omega arith; low = c.low; backed = c.backed }

pub named : (n m k s : ℕ) (all h : List (Option Inform)) → placed n all ≡ true → placed_from n k h ≡ true → Among (Carried signed agrees (told all) m s) (told h) → Named n m k s all h
named n m k s all [] a p c = absurd c
named n m k s all (None ∷ h) a p c = one_on n m k s all h None (named n m (suc k) s all h a p c)
named n m k s all (Some i ∷ h) a p c =
    let f = first_of n k i h p in
    ⊎_elim
    (λ (here : Carried signed agrees (told all) m s (told_by i)).
    let e = shared_is n 0 (told_by i) all a in
    record {
      place = 0;
      word = i;
      stands = refl;
      is = let x = here.0 in let y = f.0 in omega arith;
      low = let x = here.0 in let y = f.0 in let z = f.1.0 in omega arith;
      backed = let x = here.1 in omega arith;
    })
    (λ (there : Among (Carried signed agrees (told all) m s) (told h)). one_on n m k s all h (Some i) (named n m (suc k) s all h a f.1.1 there))
    c

-- the first word that enough back, where there is one
pub record First (m : ℕ) (all h : List (Option Inform)) : Type 0 where
  pub word : Inform
  pub stands : first_backed m all h ≡ Some word
  pub backed : m ≤ backers all word

pub first_there : (m : ℕ) (all h : List (Option Inform)) (place : ℕ) (w : Inform) → get_or h place None ≡ Some w → m ≤ backers all w → First m all h
first_there m all [] place w e b = absurd (grind arith)
first_there m all (None ∷ h) zero w e b = absurd (grind arith)
first_there m all (None ∷ h) (suc place) w e b = let f = first_there m all h place w e b in record { word = f.word; stands = f.stands; backed = f.backed }
first_there m all (Some i ∷ h) zero w e b =
    let same : i ≡ w = grind arith in
    let here : m ≤ backers all i = subst (λ x. m ≤ backers all x) (sym same) b in
    record { word = i; stands = grind (arith, nat_tests); backed = here }
first_there m all (Some i ∷ h) (suc place) w e b = go (leb m (backers all i)) refl (first_there m all h place w e b)
  where
    go : (t : Bool) → leb m (backers all i) ≡ t → First m all h → First m all (Some i ∷ h)
    go true r f = record { word = i; stands = cond-true (leb m (backers all i)) (Some i) (first_backed m all h) r; backed = grind (arith, nat_tests) }
    go false r f = record { word = f.word; stands = cond-false (leb m (backers all i)) (Some i) (first_backed m all h) r ∙ f.stands; backed = f.backed }

first_none : (m n : ℕ) (all h : List (Option Inform)) → placed n all ≡ true → Each (Short signed agrees (told all) m) (told h) → first_backed m all h ≡ None
first_none m n all [] a e = refl
first_none m n all (None ∷ h) a e = first_none m n all h a e
first_none m n all (Some i ∷ h) a e =
    let is = shared_is n 0 (told_by i) all a in
    let few = e.0 in
    let not-enough : leb m (backers all i) ≡ false = lt-leb m (backers all i) (omega arith) in
    cond-false (leb m (backers all i)) (Some i) (first_backed m all h) not-enough ∙ first_none m n all h a e.1

-- the answer where the tally of a row's words names none, and where it names a station
module _ (n : ℕ) (h : List (Option Inform)) (some : 1 ≤ n) (p : placed n h ≡ true) (words : List Told) (all : words ≡ told h) (m : ℕ) (enough : m ≡ quorum_of n) (r : Option ℕ) (t : Tallied signed agrees words m r) where
  of_row : Tallied signed agrees (told h) (quorum_of n) r
  of_row = subst (λ x. Tallied signed agrees (told h) x r) enough (subst (λ x. Tallied signed agrees x m r) all t)

  pub agreed_none : r ≡ None → None ≡ agreed_by n h
  agreed_none e = sym (ap released (first_none (quorum_of n) n h h p (subst (Tallied signed agrees (told h) (quorum_of n)) e of_row (omega arith))))

  pub agreed_some : (s : ℕ) → r ≡ Some s → (s < n) × (released (get_or h s None) ≡ agreed_by n h)
  agreed_some s e =
      let t = subst (Tallied signed agrees (told h) (quorum_of n)) e of_row in
      let c = named n (quorum_of n) 0 s h h p p t.1 in
      let f = first_there (quorum_of n) h h c.place c.word c.stands c.backed in
      let e : s ≡ c.place = let i = c.is in omega arith in (
        c.low,
        ap (λ k. released (get_or h k None)) e
            ∙ ap released c.stands
            ∙ ap Some (one_say n h c.word f.word some p c.backed f.backed)
            ∙ sym (ap released f.stands),
      )

-- no more are alike than there are stations
some_of : (b : Bool) (i : Inform) (xs : List Inform) (k : ℕ) → length xs ≤ k → length (cond b (i ∷ xs) xs) ≤ suc k
some_of true i xs k l = omega arith
some_of false i xs k l = omega arith

backers_few : (h : List (Option Inform)) (w : Inform) → backers h w ≤ length (told h)
backers_few [] w = omega arith
backers_few (None ∷ h) w = backers_few h w
backers_few (Some i ∷ h) w = some_of (alike i w) i (supporters h w) (length (told h)) (backers_few h w)

most_few : (all h : List (Option Inform)) → most_from all h ≤ length (told all)
most_few all [] = omega arith
most_few all (None ∷ h) = most_few all h
most_few all (Some i ∷ h) =
    let b = backers_few all i in
    let ih = most_few all h in
    omega arith

pub most_in_ring : (n : ℕ) (h : List (Option Inform)) → placed n h ≡ true → most_alike h ≤ n
most_in_ring n h p =
    let a = most_few h h in
    let b = told_few n 0 h p in
    omega arith

told_short : (h : List (Option Inform)) → length (told h) ≤ length h
told_short [] = omega arith
told_short (None ∷ h) = let ih = told_short h in omega arith
told_short (Some i ∷ h) = let ih = told_short h in omega arith

-- an option yields its value, once
pub option_yields : (o : Option Inform) {s : _} → option_iter_item s ≡ o → option_iter_done s ≡ false → YieldsList (option_iter_steps {A = Inform}) (λ y. y.now) s (option_to_list o)
option_yields o {s} e d =
    subst (λ xs. YieldsList option_iter_steps (λ y. y.now) s xs) (grind arith)
    (YieldsList-from_shown option_iter_steps (λ y. y.now) (λ t. cond (option_iter_done t) [] (option_to_list (option_iter_item t))) (λ t u h. grind arith) (λ t x u h. grind arith) s)

told_flat : (h : List (Option Inform)) → map told_by (flat_map option_to_list h) ≡ told h
told_flat [] = refl
told_flat (None ∷ h) = told_flat h
told_flat (Some i ∷ h) = ap (λ l. told_by i ∷ l) (told_flat h)

-- the informs of a row that are still to come, behind the words that are gathered
pub record ToCome {S : Type 0} (steps : S → Option (Bor Inform) → S → Type 0) (words : List Told) (h : List (Option Inform)) (s : S) : Type 0 where
  pub left : List Inform
  pub all : words ++ map told_by left ≡ told h
  pub runs : YieldsList steps (λ y. y.now) s left

module _ {S : Type 0} (steps : S → Option (Bor Inform) → S → Type 0) (words : List Told) (h : List (Option Inform)) (s : S) where
  pub all_come : words ≡ [] → YieldsList steps (λ y. y.now) s (flat_map option_to_list h) → ToCome steps words h s
  all_come e y = record { left = flat_map option_to_list h; all = ap (λ ws. ws ++ map told_by (flat_map option_to_list h)) e ∙ told_flat h; runs = y }

module _ {S : Type 0} (steps : S → Option (Bor Inform) → S → Type 0) (words : List Told) (h : List (Option Inform)) (s t : S) where
  pub come_end : ToCome steps words h s → steps s None t → words ≡ told h
  come_end c p = go c.left c.all c.runs.runs
    where
      go : (left : List Inform) → words ++ map told_by left ≡ told h → AlwaysYields steps (λ y. y.now) s left → words ≡ told h
      go [] e y = sym (append-nil words) ∙ e
      go (i ∷ left) e y = absurd (y.0 t p)

  module _ (x : Bor Inform) (p : steps s (Some x) t) where
    pub come_room : ToCome steps words h s → length words < length h
    come_room c = go c.left c.all c.runs.runs
      where
        go : (left : List Inform) → words ++ map told_by left ≡ told h → AlwaysYields steps (λ y. y.now) s left → length words < length h
        go [] e y = absurd (y x t p)
        go (i ∷ left) e y =
            let both = length-append words (told_by i ∷ map told_by left) in
            let all = ap length e in
            let few = told_short h in
            omega arith

    pub come_next : (words' : List Told) → words' ≡ words ++ told_by x.now ∷ [] → ToCome steps words h s → ToCome steps words' h t
    come_next words' is c = go c.left c.all c.runs.runs
      where
        go : (left : List Inform) → words ++ map told_by left ≡ told h → AlwaysYields steps (λ y. y.now) s left → ToCome steps words' h t
        go [] e y = absurd (y x t p)
        go (i ∷ left) e y =
            let n = y.1 x t p in
            record {
              left = left;
              all =
                  ap (λ ws. ws ++ map told_by left) is
                  ∙ append_assoc words (told_by x.now ∷ []) (map told_by left)
                  ∙ ap (λ j. words ++ (told_by j ∷ map told_by left)) n.0
                  ∙ e;
              runs = record { runs = n.1 };
            }

-- the largest count of a row's words
largest : (n : ℕ) (all h : List (Option Inform)) (a : ℕ) → placed n all ≡ true → fold (λ m x. max m (shared signed agrees (told all) x)) a (told h) ≡ max a (most_from all h)
largest n all [] a p = omega arith
largest n all (None ∷ h) a p = largest n all h a p
largest n all (Some i ∷ h) a p =
    let e = shared_is n 0 (told_by i) all p in
    let ih = largest n all h (max a (shared signed agrees (told all) (told_by i))) p in
    omega arith

pub most_is : (n : ℕ) (h : List (Option Inform)) (words : List Told) → placed n h ≡ true → words ≡ told h → fold (λ m x. max m (shared signed agrees words x)) 0 words ≡ most_alike h
most_is n h words p e =
    let l = largest n h h 0 p in
    ap (λ ws. fold (λ m x. max m (shared signed agrees ws x)) 0 ws) e ∙ omega arith
