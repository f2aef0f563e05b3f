-- Steps at numbers one after the other: a turn of a loop that takes them, its end, steps that change nothing, and two goes in place of one.
use native.Mathlib.Omega.{arith}
use native.Mathlib.Numerals.{add-one}
use Prim.Native.Nat.{ℕ, zero, suc, ◌+◌, ◌-◌, ◌≤◌, ◌<◌}
use mathlib.Core.Path.{◌≡◌, refl, sym, ap, ◌∙◌}
use Rattle.ground.specs.Turns.{turns}
use Rattle.ground.proofs.Order.{by_order}

module _ {A : Type 0} (f : ℕ → A → A) where
  -- the first of the steps from k to below e
  pub turns_step : (k e : ℕ) (s : A) → k < e → turns f k (e - k) s ≡ turns f (k + 1) (e - (k + 1)) (f k s)
  unfolding turns
  turns_step k e s h = let d : e - k ≡ suc (e - (k + 1)) = omega arith in rw (d, add-one k)

  -- a turn of a loop
  pub turns_again :
      (k e : ℕ) (s next whole : A) →
      k < e →
      turns f k (e - k) s ≡ whole →
      next ≡ f k s →
      turns f (k + 1) (e - (k + 1)) next ≡ whole
  turns_again k e s next whole h i q = rw q (sym (turns_step k e s h) ∙ i)

  -- steps that change nothing there
  turns_off : (k n : ℕ) (s : A) → ((i : ℕ) → k ≤ i → i < k + n → f i s ≡ s) → turns f k n s ≡ s
  unfolding turns
  turns_off k zero s off = refl
  turns_off k (suc n) s off =
      rw (off k (omega arith) (omega arith)) (turns_off (suc k) n s (λ i p q. off i (omega arith) (omega arith)))

  -- the end of a loop that stops early: what is left changes nothing
  pub turns_rest :
      (k e : ℕ) (s whole : A) →
      turns f k (e - k) s ≡ whole →
      ((i : ℕ) → k ≤ i → i < e → f i s ≡ s) →
      s ≡ whole
  turns_rest k e s whole i off = sym (turns_off k (e - k) s (λ j p q. off j p (omega arith))) ∙ i

  -- its end where nothing is left
  pub turns_done : (k e : ℕ) (s whole : A) → e ≤ k → turns f k (e - k) s ≡ whole → s ≡ whole
  turns_done k e s whole h i = turns_rest k e s whole i (λ j p q. absurd (omega arith))

  -- the first steps change nothing
  pub turns_start :
      (d k e : ℕ) (s : A) →
      ((i : ℕ) → k ≤ i → i < k + d → f i s ≡ s) →
      turns f k (e - k) s ≡ turns f (k + d) (e - (k + d)) s
  unfolding turns
  turns_start zero k e s off = let h : k + 0 ≡ k = omega arith in rw h
  turns_start (suc d) k e s off =
      by_order k e
      (λ h. let a : k + 1 + d ≡ k + suc d = omega arith in
      turns_step k e s h
      ∙ rw (off k (omega arith) (omega arith), ← a) (turns_start d (k + 1) e s (λ i p q. off i (omega arith) (omega arith))))
      (λ h. let a : e - k ≡ 0 = omega arith in let b : e - (k + suc d) ≡ 0 = omega arith in rw (a, b))

  -- what each step keeps they all keep
  pub turns_keep : (P : A → Type 0) → ((k : ℕ) (s : A) → P s → P (f k s)) → (k n : ℕ) (s : A) → P s → P (turns f k n s)
  unfolding turns
  turns_keep P keeps k zero s p = p
  turns_keep P keeps k (suc n) s p = turns_keep P keeps (suc k) n (f k s) (keeps k s p)

  -- no step changes anything
  pub turns_idle : (k n : ℕ) (s : A) → ((i : ℕ) (t : A) → k ≤ i → i < k + n → f i t ≡ t) → turns f k n s ≡ s
  turns_idle k n s idle = turns_off k n s (λ i p q. idle i s p q)

  -- in two goes
  pub turns_split : (k m n : ℕ) (s : A) → turns f k (m + n) s ≡ turns f (k + m) n (turns f k m s)
  unfolding turns
  turns_split k zero n s = let e : k + 0 ≡ k = omega arith in let d : 0 + n ≡ n = omega arith in rw (e, d)
  turns_split k (suc m) n s =
      let e : suc k + m ≡ k + suc m = omega arith in
      let d : suc m + n ≡ suc (m + n) = omega arith in
      rw d (turns_split (suc k) m n (f k s) ∙ rw e)

  -- only the steps from low to below high change anything
  pub turns_between :
      (width low high : ℕ) (s : A) →
      high ≤ width →
      ((k : ℕ) (t : A) → k < low → f k t ≡ t) →
      ((k : ℕ) (t : A) → high ≤ k → f k t ≡ t) →
      turns f low (high - low) s ≡ turns f 0 width s
  turns_between width low high s h left right =
      by_order low high
      (λ p.
      let w : width ≡ low + ((high - low) + (width - high)) = omega arith in
      let a : 0 + low ≡ low = omega arith in
      let b : low + (high - low) ≡ high = omega arith in
      let whole = rw (a, turns_idle 0 low s (λ k t x y. left k t (omega arith))) at (turns_split 0 low ((high - low) + (width - high)) s) in
      let rest = rw (b, turns_idle high (width - high) (turns f low (high - low) s) (λ k t x y. right k t x)) at (turns_split low (high - low) (width - high) s) in
      rw w (sym (whole ∙ rest)))
      (λ p.
      let z : high - low ≡ 0 = omega arith in
      let e = turns_idle low 0 s (λ k t x y. absurd (omega arith)) in
      rw z (e ∙ sym (turns_idle 0 width s (λ k t x y. by_order k low (λ q. left k t q) (λ q. right k t (omega arith))))))

-- steps that agree at each number passed
pub turns_same :
    {A : Type 0} (f g : ℕ → A → A) (k n : ℕ) (s : A) →
    ((i : ℕ) (t : A) → k ≤ i → i < k + n → f i t ≡ g i t) →
    turns f k n s ≡ turns g k n s
unfolding turns
turns_same f g k zero s same = refl
turns_same f g k (suc n) s same =
    ap (turns f (suc k) n) (same k s (omega arith) (omega arith))
    ∙ turns_same f g (suc k) n (g k s) (λ i t p q. same i t (omega arith) (omega arith))
