-- A sink that counts and sums its bytes.
use Rattle.std.specs.Prelude.{◌≡◌, ℕ, ◌+◌, ◌%◌, ◌^◌, List, [], ◌++◌, length, sum}
use Rattle.std.proofs.Common.{sym, ap, ◌∙◌, add-zero, add_assoc, length-append}
use Rattle.std.proofs.lemmas.List.Sums.{sum_by-append}
use Rattle.std.proofs.Math.Nat.{mod-add-mod}

-- how many bytes it took, and their sum, each modulo 2 ^ 64
pub record Tally : Type 0 where
  pub bytes : ℕ
  pub sum : ℕ

-- a number rose by an amount, modulo 2 ^ 64
abbrev pub RoseBy : ℕ → ℕ → ℕ → Type 0
RoseBy before amount after = after % 2 ^ 64 ≡ (before + amount) % 2 ^ 64

-- the count rose by the number of the bytes, and the sum by their sum
pub record Tallied (before : Tally) (bytes : List ℕ) (after : Tally) : Type 0 where
  pub count : RoseBy before.bytes (length bytes) after.bytes
  pub total : RoseBy before.sum (sum bytes) after.sum

RoseBy-more : (first middle last amount more : ℕ) → RoseBy first amount middle → RoseBy middle more last → RoseBy first (amount + more) last
RoseBy-more first middle last amount more one two =
    two ∙ sym (mod-add-mod middle (2 ^ 64) more) ∙ ap (λ (x : ℕ). (x + more) % 2 ^ 64) one ∙ mod-add-mod (first + amount) (2 ^ 64) more
    ∙ ap (λ (x : ℕ). x % 2 ^ 64) (add_assoc first amount more)

pub Tallied-nothing : (tally : Tally) → Tallied tally [] tally
Tallied-nothing tally = record {
  count = ap (λ (x : ℕ). x % 2 ^ 64) (sym (add-zero tally.bytes));
  total = ap (λ (x : ℕ). x % 2 ^ 64) (sym (add-zero tally.sum));
}

pub Tallied-both : (first middle last : Tally) (bytes more : List ℕ) → Tallied first bytes middle → Tallied middle more last → Tallied first (bytes ++ more) last
Tallied-both first middle last bytes more one two = record {
  count = rw (length-append bytes more) (RoseBy-more first.bytes middle.bytes last.bytes (length bytes) (length more) one.count two.count);
  total = rw (sum_by-append (λ x. x) bytes more) (RoseBy-more first.sum middle.sum last.sum (sum bytes) (sum more) one.total two.total);
}
