-- What a reading adds to what was said before its words.
use Rattle.sig_words.proofs.Common.{◌≡◌, ℕ, ◌+◌, Bool, true, false, [], ◌∷◌, ◌++◌, append_assoc, refl, ◌∙◌, cond, arith, Option, Some, None, option_to_list, subst, is_some, Word, Item, Plain, Joined, Apart, Pace, Reading, plain_words, values_of, paces, Said, OptionName, Workers, Capacity, Instants}
use Rattle.sig_words.proofs.Steps.{with_plain, with_value, with_pace}

-- how often the flag was said
abbrev pub said_paces : Said → ℕ
said_paces s = cond s.pace 1 0

pub record Adds (before : Said) (r : Reading) (after : Said) : Type 0 where
  pub plain : after.plain ≡ before.plain ++ plain_words r
  pub workers : option_to_list after.workers ≡ option_to_list before.workers ++ values_of Workers r
  pub capacity : option_to_list after.capacity ≡ option_to_list before.capacity ++ values_of Capacity r
  pub instants : option_to_list after.instants ≡ option_to_list before.instants ++ values_of Instants r
  pub paces : said_paces after ≡ said_paces before + paces r

-- a reading with one more item in front
abbrev pub with_item : Item → Reading → Reading
with_item item r = record r { items = item ∷ r.items }

-- a plain word in front
pub Adds-plain : (word : Word) (before after : Said) (r : Reading) → Adds (with_plain word before) r after
    → Adds before (with_item (Plain word) r) after
Adds-plain word before after r adds = record {
  plain = adds.plain ∙ append_assoc before.plain (word ∷ []) (plain_words r);
  workers = adds.workers;
  capacity = adds.capacity;
  instants = adds.instants;
  paces = adds.paces;
}

-- what may be put where nothing is
pub once : {X : Type 0} (o : Option Word) (x y : X) → cond (is_some o) None (Some x) ≡ Some y → (o ≡ None) × (y ≡ x)
once None x y is = (refl, cc)
once (Some w) x y is = cc

pub once_false : {X : Type 0} (b : Bool) (x y : X) → cond b None (Some x) ≡ Some y → (b ≡ false) × (y ≡ x)
once_false false x y is = (refl, cc)
once_false true x y is = cc

-- an option with its value in front
pub Adds-joined : (option : OptionName) (value : Word) (before next after : Said) (r : Reading) → with_value option value before ≡ Some next
    → Adds next r after → Adds before (with_item (Joined option value) r) after
Adds-joined Workers value before next after r is adds =
    let p = once before.workers (record before { workers = Some value }) next is in
    let same = subst (λ (s : Said). Adds s r after) p.1 adds in
    record {
      plain = same.plain;
      workers = rw p.0 same.workers;
      capacity = same.capacity;
      instants = same.instants;
      paces = same.paces;
    }
Adds-joined Capacity value before next after r is adds =
    let p = once before.capacity (record before { capacity = Some value }) next is in
    let same = subst (λ (s : Said). Adds s r after) p.1 adds in
    record {
      plain = same.plain;
      workers = same.workers;
      capacity = rw p.0 same.capacity;
      instants = same.instants;
      paces = same.paces;
    }
Adds-joined Instants value before next after r is adds =
    let p = once before.instants (record before { instants = Some value }) next is in
    let same = subst (λ (s : Said). Adds s r after) p.1 adds in
    record {
      plain = same.plain;
      workers = same.workers;
      capacity = same.capacity;
      instants = rw p.0 same.instants;
      paces = same.paces;
    }

pub Adds-apart : (option : OptionName) (value : Word) (before next after : Said) (r : Reading) → with_value option value before ≡ Some next
    → Adds next r after → Adds before (with_item (Apart option value) r) after
Adds-apart option value before next after r is adds =
    let same = Adds-joined option value before next after r is adds in
    record {
      plain = same.plain;
      workers = same.workers;
      capacity = same.capacity;
      instants = same.instants;
      paces = same.paces;
    }

-- the flag in front
pub Adds-pace : (before next after : Said) (r : Reading) → with_pace before ≡ Some next
    → Adds next r after → Adds before (with_item Pace r) after
Adds-pace before next after r is adds =
    let p = once_false before.pace (record before { pace = true }) next is in
    let same = subst (λ (s : Said). Adds s r after) p.1 adds in
    record {
      plain = same.plain;
      workers = same.workers;
      capacity = same.capacity;
      instants = same.instants;
      paces = rw p.0 (omega (arith, same.paces));
    }
