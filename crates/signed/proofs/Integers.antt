-- Laws of ℤ that lib.IntN lacks: distributivity, signs of products, an order with its sums. Assumes nothing.
use mathlib.Core.Path.{◌≡◌, sym, ap, ◌∙◌}
use mathlib.Core.Bool.{true}
use Prim.Native.Nat.{ℕ, zero, suc, ◌+◌, ◌≤◌}
use native.Mathlib.Omega.{arith}
use Rattle.std.proofs.lemmas.Int.{ints}
use lib.IntN.{ℤ, pos, negsuc, pred_ℤ, neg_ℤ, nat_abs, ◌+ℤ◌, ◌-ℤ◌, ◌*ℤ◌, +ℤ-suc_ℤ, +ℤ-pred_ℤ, suc_ℤ-*ℤ, pred_ℤ-*ℤ, +ℤ_idl, +ℤ_idr, +ℤ_assoc, +ℤ_invr, *ℤ_comm, zero-*ℤ, neg_ℤ-neg_ℤ}
use lib.Signed.{le_z}

-- (m + k) c = m c + k c
pub +-*ℤ : (m k c : ℤ) → (m +ℤ k) *ℤ c ≡ m *ℤ c +ℤ k *ℤ c
+-*ℤ m (pos zero) c = ap (λ (x : ℤ). x *ℤ c) (+ℤ_idr m) ∙ sym (ap (λ (x : ℤ). m *ℤ c +ℤ x) (zero-*ℤ c) ∙ +ℤ_idr (m *ℤ c))
+-*ℤ m (pos (suc n)) c =
    ap (λ (x : ℤ). x *ℤ c) (+ℤ-suc_ℤ m (pos n))
    ∙ suc_ℤ-*ℤ (m +ℤ pos n) c
    ∙ ap (λ (x : ℤ). x +ℤ c) (+-*ℤ m (pos n) c)
    ∙ +ℤ_assoc (m *ℤ c) (pos n *ℤ c) c
    ∙ ap (λ (x : ℤ). m *ℤ c +ℤ x) (sym (suc_ℤ-*ℤ (pos n) c))
+-*ℤ m (negsuc zero) c =
    ap (λ (x : ℤ). x *ℤ c) (+ℤ-pred_ℤ m (pos zero) ∙ ap pred_ℤ (+ℤ_idr m))
    ∙ pred_ℤ-*ℤ m c
    ∙ ap (λ (x : ℤ). m *ℤ c +ℤ x) (sym (+ℤ_idl (neg_ℤ c)) ∙ ap (λ (x : ℤ). x +ℤ neg_ℤ c) (sym (zero-*ℤ c)) ∙ sym (pred_ℤ-*ℤ (pos zero) c))
+-*ℤ m (negsuc (suc n)) c =
    ap (λ (x : ℤ). x *ℤ c) (+ℤ-pred_ℤ m (negsuc n))
    ∙ pred_ℤ-*ℤ (m +ℤ negsuc n) c
    ∙ ap (λ (x : ℤ). x +ℤ neg_ℤ c) (+-*ℤ m (negsuc n) c)
    ∙ +ℤ_assoc (m *ℤ c) (negsuc n *ℤ c) (neg_ℤ c)
    ∙ ap (λ (x : ℤ). m *ℤ c +ℤ x) (sym (pred_ℤ-*ℤ (negsuc n) c))

-- ** Signs of products

pub neg-*ℤ : (a b : ℤ) → neg_ℤ a *ℤ b ≡ neg_ℤ (a *ℤ b)
neg-*ℤ a b =
    let none : (a +ℤ neg_ℤ a) *ℤ b ≡ pos 0 = rw +ℤ_invr (zero-*ℤ b) in
    omega (arith, ints, +-*ℤ a (neg_ℤ a) b)

pub neg-neg-*ℤ : (a b : ℤ) → neg_ℤ a *ℤ neg_ℤ b ≡ a *ℤ b
neg-neg-*ℤ a b = rw (neg-*ℤ a (neg_ℤ b), *ℤ_comm a (neg_ℤ b), neg-*ℤ b a, *ℤ_comm b a) (neg_ℤ-neg_ℤ (a *ℤ b))

-- ** The order: b is a and a number more

pub record Le (a b : ℤ) : Type 0 where
  pub more : ℕ
  pub is : b ≡ a +ℤ pos more

pub le_same : (a : ℤ) → Le a a
le_same a = record { more = 0; is = omega (arith, ints) }

pub le_is : {a b : ℤ} → a ≡ b → Le a b
le_is {a} {b} e = record { more = 0; is = omega (arith, ints) }

pub le_then : {a b c : ℤ} → Le a b → Le b c → Le a c
le_then {a} {b} {c} h k = record { more = h.more + k.more; is = omega (arith, ints) }

pub le_sum : {a b c d : ℤ} → Le a b → Le c d → Le (a +ℤ c) (b +ℤ d)
le_sum {a} {b} {c} {d} h k = record { more = h.more + k.more; is = omega (arith, ints) }

-- ** The order as a test

pub le_of_test : (a b : ℤ) → le_z a b ≡ true → Le a b
le_of_test a b e = record { more = nat_abs (b -ℤ a); is = grind (arith, ints) }

pub test_of_le : (a b : ℤ) → Le a b → le_z a b ≡ true
test_of_le a b h = let e = h.is in grind (arith, ints)

pub same_of_tests : (a b : ℤ) → le_z a b ≡ true → le_z b a ≡ true → a ≡ b
same_of_tests a b h g = grind (arith, ints)

-- what is at least 0 is its own size
pub size_of_le : (a : ℤ) → Le (pos 0) a → a ≡ pos (nat_abs a)
size_of_le a h = omega (arith, ints)

-- what is at most a number has at most that size, if it is a number
pub le_pos : (a b : ℕ) → Le (pos a) (pos b) → a ≤ b
le_pos a b h = omega (arith, ints)
