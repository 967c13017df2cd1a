-- Names of signals: those of a text, and those of copies, which tell the number of the call.
use Rattle.sig_call.proofs.Common.{◌≡◌, ◌≢◌, ◌⊎◌, ◌++◌, ◌<◌, ◌≤◌, ◌^◌, ℕ, suc, List, [], ◌∷◌, true, false, sym, ap, ◌∙◌, inl, inr, arith, append_assoc, decimal_is_IsNumeral_wide, digit_from_value, decimal, AllPass, AllDigits, digits_value, is_name_byte, Name, copy_prefix}
use Rattle.sig_call.proofs.Apart.{Lacks, cut, lacks_none}

-- a byte that no name has
pub name_lacks : (b : ℕ) → is_name_byte b ≡ false → (bytes : List ℕ) → AllPass is_name_byte bytes → Lacks b bytes
name_lacks b other [] all = tt
name_lacks b other (c ∷ cs) all = (
  (λ same. (let yes : is_name_byte c ≡ true = all 0 c (omega arith) in
      let both : false ≡ true = sym other ∙ ap is_name_byte (sym same) ∙ yes in
      absurd cc)),
  name_lacks b other cs (λ k d below. all (suc k) d (omega arith)),
)

-- the digits of a number
digits_lack : (ds : List ℕ) → AllDigits 10 ds → Lacks 46 ds
digits_lack [] all = tt
digits_lack (c ∷ cs) all = ((λ same. (let digit = digit_from_value c all.0 in absurd (omega (arith, digit)))), digits_lack cs all.1)

decimal_lacks : (n : ℕ) → n < 10 ^ 64 → Lacks 46 (decimal n)
decimal_lacks n few = digits_lack (decimal n) (decimal_is_IsNumeral_wide n few).0.1

same_number : (m n : ℕ) → m < 10 ^ 64 → n < 10 ^ 64 → decimal m ≡ decimal n → m ≡ n
same_number m n p q same = sym (decimal_is_IsNumeral_wide m p).1 ∙ ap (digits_value 10) same ∙ (decimal_is_IsNumeral_wide n q).1

-- the name of a signal of the copy that a call makes, of at most so many calls
pub record Copied (calls : ℕ) (text : List ℕ) : Type 0 where
  pub process : List ℕ
  pub number : ℕ
  pub declared : List ℕ
  pub plain : Lacks 35 process
  pub made : number ≤ calls
  pub is : text ≡ process ++ 35 ∷ (decimal number ++ 46 ∷ declared)

-- a name after so many calls
abbrev pub Numbered : ℕ → List ℕ → Type 0
Numbered calls text = Lacks 35 text ⊎ Copied calls text

pub later_too : (m n : ℕ) → m ≤ n → (text : List ℕ) → Numbered m text → Numbered n text
later_too m n more text (inl plain) = inl plain
later_too m n more text (inr old) = inr record {
  process = old.process;
  number = old.number;
  declared = old.declared;
  plain = old.plain;
  made = let made : old.number ≤ m = old.made in omega arith;
  is = old.is;
}

copy_name : (name : Name) (n : ℕ) (declared : List ℕ) → copy_prefix name n ++ declared ≡ name.text ++ 35 ∷ (decimal n ++ 46 ∷ declared)
copy_name name n declared = append_assoc name.text (35 ∷ (decimal n ++ 46 ∷ [])) declared ∙ ap (λ bytes. name.text ++ 35 ∷ bytes) (append_assoc (decimal n) (46 ∷ []) declared)

pub copied : (name : Name) (n : ℕ) → Lacks 35 name.text → (declared : List ℕ) → Numbered n (copy_prefix name n ++ declared)
copied name n plain declared = inr record {
  process = name.text;
  number = n;
  declared = declared;
  plain = plain;
  made = omega arith;
  is = copy_name name n declared;
}

-- the name of a new copy's signal is none of the earlier ones
pub new_name : (calls n : ℕ) (name : Name) → Lacks 35 name.text → calls < n → n < 10 ^ 64 → (text declared : List ℕ) → Numbered calls text → text ≢ copy_prefix name n ++ declared
new_name calls n name plain new few text declared (inl none) = λ same. lacks_none 35 text name.text _ none (same ∙ copy_name name n declared)
new_name calls n name plain new few text declared (inr old) = λ same. (
    let made : old.number ≤ calls = old.made in
    let first = cut 35 old.process name.text (decimal old.number ++ 46 ∷ old.declared) (decimal n ++ 46 ∷ declared) old.plain plain (sym old.is ∙ same ∙ copy_name name n declared) in
    let second = cut 46 (decimal old.number) (decimal n) old.declared declared (decimal_lacks old.number (omega arith)) (decimal_lacks n few) first.1 in
    let number : old.number ≡ n = same_number old.number n (omega arith) few second.0 in
    absurd (omega arith)
    )
