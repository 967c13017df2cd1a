-- What is found out of an operation, and of all.
use Rattle.sig_verify.proofs.Common.{nat_cmp, ◌≡◌, ℕ, ◌+◌, ◌*◌, ◌<◌, ◌≤◌, Bool, true, false, List, [], length, ◌^◌, ◌⊎◌, Option, None, Some, Result, Ok, Err, inl, inr, sym, ap, subst, ◌∙◌, arith, cases_lt, length-map, same_Some, slice_get_cases, slice_get_within, BTreeMap, get, ◌↔◌, Contains, IfErr, IfOk, IsTrue, nat_eq, slice_get, FunOp, Operand, Sig, ImageOpKind, IsSoundImage, IsSoundOperation, Reads, guarded_in, guards_of, ImageView, IsImage, IsOperation, scope_of, ImageOp, each_at, AreGood, AreOf, AreTold, IsGood, IsGuard, IsWrittenWhere, asked, choices, guard_at, operands_of, target_of, Follows, IsRefusal, IsFree, IsKnown, IsSoundAt, IsTakenIn, IsWant, IsFirstUnsound, DdAnswer, Ref, SigId, Diagrams, IsTired, Work, Verifier, IfOk-weaker}
use Rattle.sig_file.specs.declared.images.ImageOpKind.TheVariants as does
use Rattle.sig_verify.proofs.Sound.{asks_all, op_sound, reads_all, target_free}
use Rattle.sig_verify.proofs.Stays.{are_good_kept}
use Rattle.sig_verify.proofs.Tables.{entry_added}
use Rattle.sig_verify.proofs.CountedPairs.{few_operands, reads_room, tired_wants, write_room}
use Rattle.sig_verify.proofs.Taken.{calls_for, known_next, told_mid, wants}

-- ---- a guard

pub good_added : (c : ℕ) (old new : Diagrams) → Follows c old new → (image : ImageView) (written : BTreeMap ℕ Ref) → AreOf old written
    → (was is : BTreeMap ℕ Ref) → AreGood old image written was → (n : ℕ) (r : Ref) → IsGood new image written n r
    → get nat_cmp is n ≡ Some r → ((k : ℕ) → nat_eq n k ≡ false → get nat_cmp is k ≡ get nat_cmp was k) → AreGood new image written is
good_added c old new follows image written of was is good n r here at others =
    entry_added (IsGood new image written) was is n r here at others (are_good_kept c old new follows image written of was good)

-- ---- an operation

module _ (image : ImageView) (n : ℕ) (op : ImageOp) (at : slice_get image.ops n ≡ Some op) (old : Verifier) (known : IsKnown image n old) where
  pub guard_within : IsImage image → op.guard < length image.nodes + 2
  guard_within is = (each_at (λ before. IsOperation (scope_of image)) [] image.ops n op is.ops at).guard

  pub guard_wants : IsImage image → n < length image.ops → (answer : DdAnswer) → IsRefusal old.diagrams (10 * choices (guard_at image op.guard)) answer → IsWant image answer
  guard_wants is lt answer h =
      let few = calls_for image is n op.guard old.diagrams.calls (guard_within is) known.calls in
      wants image n lt old.diagrams (10 * choices (guard_at image op.guard)) known.scene.conditions (omega (arith, few)) answer h

  module _ (mid : Verifier) (follows : Follows (10 * choices (guard_at image op.guard)) old.diagrams mid.diagrams) (same : mid.written ≡ old.written) where
    write_wants : IsImage image → n < length image.ops → (answer : DdAnswer) → IsRefusal mid.diagrams 1 answer → IsWant image answer
    write_wants is lt answer h =
        let few = calls_for image is n op.guard old.diagrams.calls (guard_within is) known.calls in
        let more = follows.counted in
        wants image n lt mid.diagrams 1 (follows.conditions ∙ known.scene.conditions) (omega (arith, few, more)) answer h

    proposals : 2 ^ mid.diagrams.conditions ≡ 2 ^ length image.conditions
    proposals = ap (λ k. 2 ^ k) (follows.conditions ∙ known.scene.conditions)

    module _ (is : IsImage image) (same_work : mid.work ≡ old.work) where
      few_before : mid.work.pairs ≤ n * (3 * 2 ^ length image.conditions)
      few_before = subst (λ (w : Work). w.pairs ≤ n * (3 * 2 ^ length image.conditions)) (sym same_work) known.pairs

      pub reads_wants : n < length image.ops → (answer : DdAnswer) → IsTired mid.work (operands_of op.kind * 2 ^ mid.diagrams.conditions) answer → IsWant image answer
      reads_wants lt answer =
          tired_wants image n lt mid.work (operands_of op.kind * 2 ^ mid.diagrams.conditions)
          (reads_room n (operands_of op.kind) mid.work.pairs (2 ^ mid.diagrams.conditions) (2 ^ length image.conditions) proposals (few_operands image is n op at) few_before) answer

      module _ (read : Work) (counted : read.pairs ≤ mid.work.pairs + operands_of op.kind * 2 ^ mid.diagrams.conditions) where
        pub written_wants : n < length image.ops → (answer : DdAnswer) → IsRefusal mid.diagrams 1 answer ⊎ IsTired read (2 ^ mid.diagrams.conditions) answer → IsWant image answer
        written_wants lt answer (inl h) = write_wants is lt answer h
        written_wants lt answer (inr h) =
            tired_wants image n lt read (2 ^ mid.diagrams.conditions)
            (write_room n (operands_of op.kind) mid.work.pairs read.pairs (2 ^ mid.diagrams.conditions) (2 ^ length image.conditions) proposals (few_operands image is n op at) few_before counted) answer h

        pub few_behind : (last : Work) → last.pairs ≤ read.pairs + 2 ^ mid.diagrams.conditions → last.pairs ≤ (n + 1) * (3 * 2 ^ length image.conditions)
        few_behind last more =
            let room = write_room n (operands_of op.kind) mid.work.pairs read.pairs (2 ^ mid.diagrams.conditions) (2 ^ length image.conditions) proposals (few_operands image is n op at) few_before counted in
            omega (arith, room, more)

    pub guard_unsound : IsGuard mid.diagrams image mid.written op.guard None → IsSoundAt image n → ⊥
    guard_unsound none sound =
        none (asks_all image n op at mid.diagrams mid.written (told_mid image n op at old mid known (10 * choices (guard_at image op.guard)) follows same) sound)

    module _ (r : Ref) (good : IsGood mid.diagrams image mid.written op.guard r) where
      pub reads_unsound : (all : Bool) → all ≡ false → IsTrue all ↔ ((x : SigId) → Reads op.kind x → IsWrittenWhere mid.diagrams.store.nodes mid.written r x) → IsSoundAt image n → ⊥
      reads_unsound all some h sound =
          let held : all ≡ true = h.1 (reads_all image n op at mid.diagrams mid.written (told_mid image n op at old mid known (10 * choices (guard_at image op.guard)) follows same) r good sound) in
          absurd cc

      module _ (reads : (x : SigId) → Reads op.kind x → IsWrittenWhere mid.diagrams.store.nodes mid.written r x) (target : Option SigId) (is_target : target ≡ target_of op.kind) where
        free_sound : (yes : Bool) → IsTrue yes ↔ ((y : SigId) → target ≡ Some y → IsFree mid.diagrams mid.written y r) → IsTrue yes ↔ IsSoundAt image n
        free_sound answer h =
            let told = told_mid image n op at old mid known (10 * choices (guard_at image op.guard)) follows same in (
              λ free. op_sound image n op at mid.diagrams mid.written told r good reads (λ y e. h.0 free y (is_target ∙ e)),
              λ sound. h.1 (λ y e. target_free image n op at mid.diagrams mid.written told r good sound y (sym is_target ∙ e)),
            )

        pub write_sound : (result : Result Bool DdAnswer) → IfOk result (λ yes. IsTrue yes ↔ ((y : SigId) → target ≡ Some y → IsFree mid.diagrams mid.written y r)) → IfOk result (λ yes. IsTrue yes ↔ IsSoundAt image n)
        write_sound result = IfOk-weaker result (λ yes. IsTrue yes ↔ ((y : SigId) → target ≡ Some y → IsFree mid.diagrams mid.written y r)) (λ yes. IsTrue yes ↔ IsSoundAt image n) free_sound

        pub write_known : IsImage image → AreGood mid.diagrams image mid.written mid.guards → AreTold false mid.diagrams image (asked mid.diagrams image mid.written) mid.told → (new : Verifier)
            → Follows 1 mid.diagrams new.diagrams → new.guards ≡ mid.guards → new.told ≡ mid.told
            → (result : Result Bool DdAnswer) → IfOk result (λ yes. IsTrue yes → IsTakenIn mid.diagrams mid.written new.diagrams new.written target r)
            → new.work.pairs ≤ (n + 1) * (3 * 2 ^ length image.conditions) → IfOk result (λ yes. IsTrue yes → IsKnown image (n + 1) new)
        write_known is all_good all_told new followed guards tells result was few_pairs =
            IfOk-weaker result (λ yes. IsTrue yes → IsTakenIn mid.diagrams mid.written new.diagrams new.written target r) (λ yes. IsTrue yes → IsKnown image (n + 1) new) (λ yes taken holds.
            known_next image n op at old mid known (10 * choices (guard_at image op.guard)) follows same all_good all_told r good new followed guards tells
            (subst (λ o. IsTakenIn mid.diagrams mid.written new.diagrams new.written o r) is_target (taken holds))
            (let few = calls_for image is n op.guard old.diagrams.calls (guard_within is) known.calls in
            let more = follows.counted in
            let last = followed.counted in
            omega (arith, few, more, last))
            few_pairs) was

-- what an operation does, if it is a function
pub fun_reads : (kind : ImageOpKind) (y : SigId) (f : FunOp) (operands list : List Operand) → kind ≡ does.Fun y f operands → list ≡ operands → (W : SigId → Type 0) (result : Result Bool DdAnswer)
    → IfOk result (λ yes. IsTrue yes ↔ ((x : SigId) → Contains list (Sig x) → W x)) → IfOk result (λ yes. IsTrue yes ↔ ((x : SigId) → Reads kind x → W x))
fun_reads kind y f operands list is same W result h =
    subst (λ (k : ImageOpKind). IfOk result (λ yes. IsTrue yes ↔ ((x : SigId) → Reads k x → W x))) (sym is)
    (subst (λ (l : List Operand). IfOk result (λ yes. IsTrue yes ↔ ((x : SigId) → Contains l (Sig x) → W x))) same h)

pub err_weaker : {T : Type 0} (P Q : DdAnswer → Type 0) (result : Result T DdAnswer) → ((e : DdAnswer) → P e → Q e) → IfErr result P → IfErr result Q
err_weaker P Q (Ok x) f h = tt
err_weaker P Q (Err e) f h = f e h

-- ---- all operations

as_many : (image : ImageView) → length (guards_of image).ops ≡ length image.ops
as_many image = length-map image.ops (guarded_in image.nodes)

pub all_sound : (image : ImageView) (end : ℕ) → length image.ops ≤ end → ((m : ℕ) → m < end → IsSoundAt image m) → IsSoundImage image
all_sound image end le sound n op e =
    let within = slice_get_within (guards_of image).ops n op e in
    let many = as_many image in
    sound n (omega (arith, within, many, le)) op e

pub one_more : (image : ImageView) (n : ℕ) → ((m : ℕ) → m < n → IsSoundAt image m) → IsSoundAt image n → (m : ℕ) → m < n + 1 → IsSoundAt image m
one_more image n sound here m lt = elim (cases_lt m n) [
  | inl less ↦ sound m less
  | inr le ↦ let same : n ≡ m = omega (arith, lt, le) in subst (IsSoundAt image) same here
]

pub first_found : (image : ImageView) (n : ℕ) → n < length image.ops → (IsSoundAt image n → ⊥) → ((m : ℕ) → m < n → IsSoundAt image m) → IsFirstUnsound image n
first_found image n lt unsound before = elim (slice_get_cases (guards_of image).ops n).1 [
  | inl found ↦ record {
    op = found.0;
    is = found.2;
    unsound = λ sound. unsound (λ other e. subst (IsSoundOperation (guards_of image) n) (same_Some found.0 other (sym found.2 ∙ e)) sound);
    before = λ m earlier less e. before m less earlier e;
  }
  | inr past ↦ let many = as_many image in let le = past.0 in absurd (omega (arith, lt, many, le))
]

pub none_first : (image : ImageView) → IsSoundImage image → (n : ℕ) → IsFirstUnsound image n → ⊥
none_first image sound n first = first.unsound (sound n first.op first.is)

pub one_first : (image : ImageView) (m n : ℕ) → IsFirstUnsound image m → IsFirstUnsound image n → m ≡ n
one_first image m n a b = elim (cases_lt m n) [
  | inl lt ↦ absurd (a.unsound (b.before m a.op lt a.is))
  | inr le ↦ elim (cases_lt n m) [
    | inl less ↦ absurd (b.unsound (a.before n b.op less b.is))
    | inr ge ↦ omega (arith, le, ge)
  ]
]
