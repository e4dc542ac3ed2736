-- How many of the 65,536 statuses have a class (rule 13.4).
use Rattle.std.specs.Prelude.{ℕ, zero, suc, ◌+◌, Bool, cond, eqb}
use Rattle.response.specs.Status.{class_of}

-- the sum of f at all numbers below n
unfoldable pub total : (ℕ → ℕ) → ℕ → ℕ
total f zero = 0
total f (suc n) = total f n + f n

-- how many numbers below n pass the test f
abbrev pub count : (ℕ → Bool) → ℕ → ℕ
count f n = total (λ b. cond (f b) 1 0) n

-- how many statuses have the class k: SW1 and SW2 are each below 256
abbrev pub statuses_of : ℕ → ℕ
statuses_of k = total (λ a. count (λ b. eqb (class_of (record { sw1 = a; sw2 = b })) k) 256) 256
