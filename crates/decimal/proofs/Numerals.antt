-- Laws of decimal numbers: each has one spelling, and it is read back.
-- Assumes nothing.
use mathlib.Core.Path.{◌≡◌, refl, sym, ap, ap₂, ◌∙◌}
use mathlib.Core.Bool.{Bool, true, false, cond, not, ◌&&◌}
use mathlib.Core.List.{List, [], ◌∷◌, ◌++◌, append_assoc, append-nil}
use Prim.Native.Nat.{ℕ, zero, suc, ◌+◌, ◌-◌, ◌*◌, ◌/◌, ◌%◌, ◌^◌, ◌≤◌, ◌<◌}
use native.Mathlib.Omega.{arith}
use native.Mathlib.Numerals.{add-one}
use native.Mathlib.Nat.{pow-suc}
use lib.ListN.{length, get_or, take, length-append}
use lib.Seq.{take-suc}
use Rattle.std.proofs.lemmas.List.{take_all}
use lib.Dec.{eqb, leb, ltb}
use borrow.Author.Tests.{lt-ltb, le-ltb, le-leb, lt-leb, leb-true, ltb-true, eqb-false, ne_eqb, not-true}
use Rattle.belnap.proofs.Finite.{both_parts, never}
use Rattle.entries.specs.Entries.{number_limit}
use Rattle.entries.proofs.Numbers.{by_order}
use Rattle.decimal.specs.Decimal.{base, zero_digit, is_digit, digits, decimal, digits_alone, value_from, value, too_large, unpadded, well_spelled}
use Rattle.decimal.specs.Decimal.{number_said}
use Rattle.decimal.specs.declared.Misread.TheVariants.{Large, Misspelt}
use Rattle.std.specs.Prelude.{Ok, Err}
use Rattle.std.specs.Char.{is_ascii_digit}

-- a conjunction of what is true
both : (p q : Bool) → p ≡ true → q ≡ true → (p && q) ≡ true
both p q a b = rw (a, b)

-- a number's digits, once there is room for all of them
digits_enough : (f g n : ℕ) → n < f → n < g → digits f n ≡ digits g n
digits_enough zero g n h k = absurd (omega arith)
digits_enough (suc f) zero n h k = absurd (omega arith)
digits_enough (suc f) (suc g) n h k =
    by_order n base
    (λ l. rw (lt-ltb n base l))
    (λ l. rw (le-ltb n base l, digits_enough f g (n / base) (omega arith) (omega arith)))

pub decimal_low : (n : ℕ) → n < base → decimal n ≡ (zero_digit + n) ∷ []
unfolding decimal
decimal_low n l = rw (lt-ltb n base l)

pub decimal_high : (n : ℕ) → base ≤ n → decimal n ≡ decimal (n / base) ++ ((zero_digit + n % base) ∷ [])
unfolding decimal
decimal_high n l = rw (le-ltb n base l, digits_enough n (suc (n / base)) (n / base) (omega arith) (omega arith))

-- a law of every number's digits: of those below the base, and with a digit more
decimal_law : (P : ℕ → List ℕ → Type 0) → ((n : ℕ) → n < base → P n ((zero_digit + n) ∷ [])) →
    ((n : ℕ) (l : List ℕ) → base ≤ n → P (n / base) l → P n (l ++ ((zero_digit + n % base) ∷ []))) → (n : ℕ) → P n (decimal n)
decimal_law P low high n = go (suc n) n (omega arith)
  where
    go : (f n : ℕ) → n < f → P n (decimal n)
    go zero n h = absurd (omega arith)
    go (suc f) n h =
        by_order n base
        (λ l. rw (decimal_low n l) (low n l))
        (λ l. rw (decimal_high n l) (high n (decimal (n / base)) l (go f (n / base) (omega arith))))

-- the library's digits are those of the definition
ascii_digit : (x : ℕ) → is_ascii_digit x ≡ is_digit x
ascii_digit x =
    by_order x (zero_digit + base)
    (λ l. rw (lt-ltb x (zero_digit + base) l, le-leb x 57 (omega arith)))
    (λ l. rw (le-ltb x (zero_digit + base) l, lt-leb x 57 (omega arith)))

-- a digit's byte
pub digit_is : (n : ℕ) → n < base → is_digit (zero_digit + n) ≡ true
digit_is n l = both (leb zero_digit (zero_digit + n)) (ltb (zero_digit + n) (zero_digit + base)) (le-leb zero_digit (zero_digit + n) (omega arith))
    (lt-ltb (zero_digit + n) (zero_digit + base) (omega arith))

pub digit_of : (x : ℕ) → is_digit x ≡ true → (zero_digit ≤ x) × (x - zero_digit < base)
digit_of x h =
    let parts = both_parts (leb zero_digit x) (ltb x (zero_digit + base)) h in
    let low = leb-true zero_digit x parts.0 in
    let high = ltb-true x (zero_digit + base) parts.1 in
    (low, omega arith)

-- a digit more behind others: digits alone, and ten times the value and the digit's own
alone_more : (l : List ℕ) (x : ℕ) → digits_alone l ≡ true → is_digit x ≡ true → digits_alone (l ++ (x ∷ [])) ≡ true
alone_more [] x a d = both (is_digit x) true d refl
alone_more (y ∷ l) x a d =
    let parts = both_parts (is_digit y) (digits_alone l) a in
    both (is_digit y) (digits_alone (l ++ (x ∷ []))) parts.0 (alone_more l x parts.1 d)

value_more : (n : ℕ) (l : List ℕ) (x : ℕ) → value_from n (l ++ (x ∷ [])) ≡ value_from n l * base + (x - zero_digit)
value_more n [] x = refl
value_more n (y ∷ l) x = value_more (n * base + (y - zero_digit)) l x

-- a number's decimal is digits alone, has its value, and no zero before others
pub decimal_alone : (n : ℕ) → digits_alone (decimal n) ≡ true
decimal_alone =
    decimal_law (λ n l. digits_alone l ≡ true)
    (λ n l. both (is_digit (zero_digit + n)) true (digit_is n l) refl)
    (λ n l h a. alone_more l (zero_digit + n % base) a (digit_is (n % base) (omega arith)))

pub value_decimal : (n : ℕ) → value (decimal n) ≡ n
unfolding value
value_decimal =
    decimal_law (λ n l. value_from 0 l ≡ n)
    (λ n l. omega arith)
    (λ n l h v. value_more 0 l (zero_digit + n % base) ∙ rw v (omega arith))

-- some digit stands first, and it is not 0 where the number is not
abbrev leads : ℕ → List ℕ → Bool
leads n [] = false
leads zero (x ∷ l) = true
leads (suc n) (x ∷ l) = not (eqb x zero_digit)

leads_more : (n m x : ℕ) (l : List ℕ) → leads (suc n) l ≡ true → leads m (l ++ (x ∷ [])) ≡ true
leads_more n m x [] h = never (sym h)
leads_more n zero x (y ∷ l) h = refl
leads_more n (suc m) x (y ∷ l) h = h

decimal_leads : (n : ℕ) → leads n (decimal n) ≡ true
decimal_leads =
    decimal_law (λ n l. leads n l ≡ true) low
    (λ n l h lead.
    let some : n / base ≡ suc (n / base - 1) = omega arith in
    leads_more (n / base - 1) n (zero_digit + n % base) l (rw some at lead))
  where
    low : (n : ℕ) → n < base → leads n ((zero_digit + n) ∷ []) ≡ true
    low zero l = refl
    low (suc n) l = rw (ne_eqb (zero_digit + suc n) zero_digit (λ q. omega arith))

-- of a number below the base the one digit; else the leading one is no 0
pub decimal_unpadded : (n : ℕ) → unpadded (decimal n) ≡ true
decimal_unpadded n =
    by_order n base
    (λ l. rw (decimal_low n l))
    (λ l. let some : n ≡ suc (n - 1) = omega arith in from_lead (n - 1) (decimal n) (rw (← some) (decimal_leads n)))
  where
    from_lead : (n : ℕ) (l : List ℕ) → leads (suc n) l ≡ true → unpadded l ≡ true
    from_lead n [] h = never (sym h)
    from_lead n (x ∷ []) h = refl
    from_lead n (x ∷ y ∷ l) h = h

pub decimal_well : (n : ℕ) → well_spelled (decimal n) ≡ true
unfolding well_spelled
decimal_well n = both (digits_alone (decimal n)) (unpadded (decimal n)) (decimal_alone n) (decimal_unpadded n)

pub decimal_small : (n : ℕ) → n < number_limit → too_large (decimal n) ≡ false
unfolding too_large
decimal_small n l = rw (decimal_alone n, value_decimal n) (lt-leb number_limit n l)

-- digits behind a number that is not 0 are those of its decimal
decimal_grows : (p : List ℕ) (n : ℕ) → digits_alone p ≡ true → 0 < n → decimal (value_from n p) ≡ decimal n ++ p
decimal_grows [] n a h = sym (append-nil (decimal n))
decimal_grows (x ∷ p) n a h =
    let parts = both_parts (is_digit x) (digits_alone p) a in
    let d = digit_of x parts.0 in
    let m = n * base + (x - zero_digit) in
    let up : m / base ≡ n = omega (arith, d.1) in
    let low : zero_digit + m % base ≡ x = omega (arith, d.0, d.1) in
    decimal_grows p m parts.1 (omega arith)
    ∙ ap (λ (l : List ℕ). l ++ p) (decimal_high m (omega arith) ∙ ap₂ (λ (k y : ℕ). decimal k ++ (y ∷ [])) up low)
    ∙ append_assoc (decimal n) (x ∷ []) p

-- a piece that is spelled well is the decimal of its value
pub decimal_value : (p : List ℕ) → well_spelled p ≡ true → decimal (value p) ≡ p
unfolding value well_spelled
decimal_value p w =
    let parts = both_parts (digits_alone p) (unpadded p) w in
    go p parts.0 parts.1
  where
    go : (p : List ℕ) → digits_alone p ≡ true → unpadded p ≡ true → decimal (value_from 0 p) ≡ p
    go [] a u = never (sym u)
    go (x ∷ []) a u =
        let d = digit_of x (both_parts (is_digit x) true a).0 in
        let back : zero_digit + (x - zero_digit) ≡ x = omega (arith, d.0) in
        let none : 0 * base + (x - zero_digit) ≡ x - zero_digit = omega arith in
        rw none (decimal_low (x - zero_digit) d.1 ∙ ap (λ (y : ℕ). y ∷ []) back)
    go (x ∷ y ∷ p) a u =
        let parts = both_parts (is_digit x) (digits_alone (y ∷ p)) a in
        let d = digit_of x parts.0 in
        let some : 0 < x - zero_digit = omega (arith, d.0, eqb-false x zero_digit (not-true (eqb x zero_digit) u)) in
        let back : zero_digit + (x - zero_digit) ≡ x = omega (arith, d.0) in
        let none : 0 * base + (x - zero_digit) ≡ x - zero_digit = omega arith in
        rw none (decimal_grows (y ∷ p) (x - zero_digit) parts.1 some)
        ∙ ap (λ (l : List ℕ). l ++ (y ∷ p)) (decimal_low (x - zero_digit) d.1 ∙ ap (λ (z : ℕ). z ∷ []) back)

-- how many digits a number has
pub decimal_longer : (n : ℕ) → base ≤ n → length (decimal n) ≡ length (decimal (n / base)) + 1
decimal_longer n l = ap length (decimal_high n l) ∙ length-append (decimal (n / base)) ((zero_digit + n % base) ∷ [])

-- a number below the base's power k has at most k digits
pub decimal_within : (k n : ℕ) → 0 < k → n < base ^ k → length (decimal n) ≤ k
decimal_within zero n h l = absurd (omega arith)
decimal_within (suc k) n h l =
    by_order n base
    (λ low. omega (arith, ap length (decimal_low n low)))
    (λ high. some k high l (λ more. decimal_within k (n / base) more))
  where
    some : (k : ℕ) → base ≤ n → n < base ^ suc k → (0 < k → n / base < base ^ k → length (decimal (n / base)) ≤ k) →
        length (decimal n) ≤ suc k
    some zero high l on = absurd (omega arith)
    some (suc k) high l on = omega (arith, decimal_longer n high, on (omega arith) (omega (arith, pow-suc base (suc k))))

-- so a number that one byte can be has at most three
pub decimal_byte : (n : ℕ) → n < number_limit → length (decimal n) ≤ 3
decimal_byte n h = decimal_within 3 n (omega arith) (omega arith)

-- one below the base has one digit, and one of 64 bits at most twenty
pub decimal_one : (n : ℕ) → n < base → length (decimal n) ≡ 1
decimal_one n l = ap length (decimal_low n l)

pub decimal_short : (n : ℕ) → n < 18446744073709551616 → length (decimal n) ≤ 20
decimal_short n l = decimal_within 20 n (omega arith) (omega arith)

-- digits up to a place, and a digit there
alone_next : (p : List ℕ) (i : ℕ) → i < length p → digits_alone (take i p) ≡ true → is_digit (get_or p i 0) ≡ true → digits_alone (take
    (i + 1) p) ≡ true
alone_next p i l a d = rw (add-one i, take-suc p i 0 l) (alone_more (take i p) (get_or p i 0) a d)

not_alone : (p : List ℕ) (i : ℕ) → i < length p → is_digit (get_or p i 0) ≡ false → digits_alone p ≡ false
not_alone [] i l d = absurd (omega arith)
not_alone (x ∷ p) zero l d = rw d
not_alone (x ∷ p) (suc i) l d = go (is_digit x) (not_alone p i (omega arith) d)
  where
    go : (b : Bool) → digits_alone p ≡ false → (b && digits_alone p) ≡ false
    go true h = h
    go false h = refl

-- the value of the code: the number's own, or both are above the limit
abbrev Near : ℕ → ℕ → Type 0
Near v n = (v < number_limit → n ≡ v) × (number_limit ≤ v → number_limit ≤ n)

near_more : (v n x : ℕ) → Near v n → Near (cond (ltb v number_limit) (v * base + (x - zero_digit)) v) (n * base + (x - zero_digit))
near_more v n x h =
    by_order v number_limit
    (λ l. rw (lt-ltb v number_limit l, h.0 l) (λ k. refl, λ k. k))
    (λ l. let far = h.1 l in rw (le-ltb v number_limit l) (λ k. absurd (omega arith), λ k. omega arith))

-- what is known of the first bytes of a piece: they are digits, with the code's value
pub record Seen (p : List ℕ) (i v : ℕ) : Type 0 where
  pub alone : digits_alone (take i p) ≡ true
  pub near : Near v (value_from 0 (take i p))

pub seen_none : (p : List ℕ) → Seen p 0 0
seen_none p = record { alone = refl; near = (λ l. refl, λ l. l) }

-- with one digit more
pub seen_next : (p : List ℕ) (i v w : ℕ) → Seen p i v → i < length p → is_ascii_digit (get_or p i 0) ≡ true →
    w ≡ cond (ltb v number_limit) (v * base + (get_or p i 0 - zero_digit)) v → Seen p (i + 1) w
seen_next p i v w h l d q = record {
  alone = alone_next p i l h.alone (sym (ascii_digit (get_or p i 0)) ∙ d);
  near = rw (q, add-one i, take-suc p i 0 l, value_more 0 (take i p) (get_or p i 0)) (near_more v (value_from 0 (take i p)) (get_or p i 0) h.near);
}

-- what is said of a piece with another byte among its digits; and once every byte was seen, by the code's value
pub said_other : (p : List ℕ) (i : ℕ) → i < length p → is_ascii_digit (get_or p i 0) ≡ false → number_said p ≡ Err Misspelt
unfolding number_said too_large well_spelled
said_other p i l d = rw (not_alone p i l (sym (ascii_digit (get_or p i 0)) ∙ d))

module _ (p : List ℕ) (i v : ℕ) (seen : Seen p i v) (end : length p ≤ i) where
  whole : (digits_alone p ≡ true) × Near v (value_from 0 p)
  whole = let all : take i p ≡ p = take_all i p end in (rw all at seen.alone, rw all at seen.near)

  pub said_large : number_limit ≤ v → number_said p ≡ Err Large
  unfolding number_said too_large value
  said_large h = rw (whole.0, le-leb number_limit (value_from 0 p) (whole.1.1 h))

  small : v < number_limit → number_said p ≡ cond (unpadded p) (Ok v) (Err Misspelt)
  unfolding number_said too_large well_spelled value
  small h =
      let is : value_from 0 p ≡ v = whole.1.0 h in
      rw (whole.0, is, lt-leb number_limit v h)

  pub said_well : v < number_limit → unpadded p ≡ true → number_said p ≡ Ok v
  said_well h w = rw (small h, w)

  pub said_padded : v < number_limit → unpadded p ≡ false → number_said p ≡ Err Misspelt
  said_padded h w = rw (small h, w)

-- what `number_of` (src/lib.rt) is proved with
pub ruleset reading = (seen_none, said_other, said_large)
