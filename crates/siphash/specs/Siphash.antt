-- SipHash-2-4 over lists of bytes: two rounds for each word of the message, four at the end.
use Rattle.std.specs.Prelude.{ℕ, zero, suc, ◌+◌, ◌-◌, ◌*◌, ◌/◌, ◌%◌, ◌^◌, List, [], ◌∷◌, ◌++◌, length, take, drop, replicate, bit_or, bit_xor}
use Rattle.siphash.specs.declared.State.{State}

-- the sum of two 64-bit words
unfoldable pub plus : ℕ → ℕ → ℕ
plus a b = (a + b) % 2 ^ 64

-- a 64-bit word rotated to the left by k bits, k from 1 to 63
unfoldable pub rotated : ℕ → ℕ → ℕ
rotated a k = bit_or ((a * 2 ^ k) % 2 ^ 64) (a / 2 ^ (64 - k))

-- v0 += v1; v1 <<<= 13; v1 ^= v0; v0 <<<= 32
unfoldable pub step_one : State → State
step_one s = record {
  v0 = rotated (plus s.v0 s.v1) 32;
  v1 = bit_xor (rotated s.v1 13) (plus s.v0 s.v1);
  v2 = s.v2;
  v3 = s.v3;
}

-- v2 += v3; v3 <<<= 16; v3 ^= v2
unfoldable pub step_two : State → State
step_two s = record {
  v0 = s.v0;
  v1 = s.v1;
  v2 = plus s.v2 s.v3;
  v3 = bit_xor (rotated s.v3 16) (plus s.v2 s.v3);
}

-- v0 += v3; v3 <<<= 21; v3 ^= v0
unfoldable pub step_three : State → State
step_three s = record {
  v0 = plus s.v0 s.v3;
  v1 = s.v1;
  v2 = s.v2;
  v3 = bit_xor (rotated s.v3 21) (plus s.v0 s.v3);
}

-- v2 += v1; v1 <<<= 17; v1 ^= v2; v2 <<<= 32
unfoldable pub step_four : State → State
step_four s = record {
  v0 = s.v0;
  v1 = bit_xor (rotated s.v1 17) (plus s.v2 s.v1);
  v2 = rotated (plus s.v2 s.v1) 32;
  v3 = s.v3;
}

-- one round
unfoldable pub sipround : State → State
sipround s = step_four (step_three (step_two (step_one s)))

-- bytes as a number, lowest first
unfoldable pub little : List ℕ → ℕ
little [] = 0
little (b ∷ bs) = b + 256 * little bs

-- word number i of some bytes, each of eight bytes
unfoldable pub word : List ℕ → ℕ → ℕ
word bs i = little (take 8 (drop (8 * i) bs))

-- the four words at the start: "somepseudorandomlygeneratedbytes" mixed with the two words of the key
unfoldable pub start : List ℕ → State
start key = record {
  v0 = bit_xor (word key 0) 0x736f6d6570736575;
  v1 = bit_xor (word key 1) 0x646f72616e646f6d;
  v2 = bit_xor (word key 0) 0x6c7967656e657261;
  v3 = bit_xor (word key 1) 0x7465646279746573;
}

-- v3 ^= m
unfoldable pub mixed_high : State → ℕ → State
mixed_high s m = record {
  v0 = s.v0;
  v1 = s.v1;
  v2 = s.v2;
  v3 = bit_xor s.v3 m;
}

-- v0 ^= m
unfoldable pub mixed_low : State → ℕ → State
mixed_low s m = record {
  v0 = bit_xor s.v0 m;
  v1 = s.v1;
  v2 = s.v2;
  v3 = s.v3;
}

-- one word m of the message: v3 ^= m; two rounds; v0 ^= m
unfoldable pub compressed : State → ℕ → State
compressed s m = mixed_low (sipround (sipround (mixed_high s m))) m

-- the message, then null bytes up to the last byte of a word, which is the length modulo 256
unfoldable pub padded : List ℕ → List ℕ
padded m = m ++ (replicate (7 - length m % 8) 0 ++ (length m % 256) ∷ [])

-- the state after the first n words
unfoldable pub after : State → List ℕ → ℕ → State
after s bs zero = s
after s bs (suc n) = compressed (after s bs n) (word bs n)

-- v2 ^= 0xff
unfoldable pub marked : State → State
marked s = record {
  v0 = s.v0;
  v1 = s.v1;
  v2 = bit_xor s.v2 0xff;
  v3 = s.v3;
}

-- the exclusive or of all four words
unfoldable pub folded : State → ℕ
folded s = bit_xor (bit_xor (bit_xor s.v0 s.v1) s.v2) s.v3

-- the end: v2 ^= 0xff; four rounds; the exclusive or of all four words
unfoldable pub finished : State → ℕ
finished s = folded (sipround (sipround (sipround (sipround (marked s)))))

-- the tag of a message under a key of 16 bytes: all the words of the padded message, then the end
unfoldable pub siphash_of : List ℕ → List ℕ → ℕ
siphash_of key m = finished (after (start key) (padded m) (length m / 8 + 1))
