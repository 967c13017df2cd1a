-- The blocks of a step do what the operations of an image do, in order.
use Rattle.std.proofs.Common.{◌≡◌, inl, inr, ◌<◌, ◌+◌, ◌++◌, ℕ, suc, Bool, true, false, List, [], ◌∷◌, Some, refl, sym, ap, subst, ◌∙◌, arith, length, map, nat_eq, slice_get, if◌then◌else◌}
use Rattle.std.specs.Prelude.{option_map}
use Rattle.std.specs.List.{flat_map}
use Rattle.std.proofs.lemmas.Bool.Decides.{eqb_tells}
use Rattle.std.proofs.lemmas.List.{length-map}
use Rattle.std.proofs.lemmas.List.Concat.{flat_map-cons}
use Rattle.std.proofs.lemmas.Option.{slice_get-map}
use Rattle.sig_lists.proofs.Joined.{still_at}
use Rattle.sig_lists.proofs.Places.{some_at}
use Rattle.sig_file.specs.Guarded.{IsSoundImage, guarded_in, guards_of}
use Rattle.sig_file.specs.ImageRuns.{State, Ends, EndsIn, Handles, HandlesAll}
use Rattle.sig_file.specs.Images.{ImageView, IsImage, MayDo, scope_of}
use Rattle.sig_file.specs.declared.images.ImageOp.{ImageOp}
use Rattle.sig_file.specs.declared.images.ImageOpKind.{ImageOpKind}
use Rattle.sig_file.specs.declared.images.ImageOpKind.TheVariants as does
use Rattle.sig_file.specs.declared.run.ImageCause.{ImageCause}
use Rattle.sig_exec.proofs.Places.{operation_at, writes_within}
use Rattle.sig_exec.proofs.KeptKinds.{none_is}
use Rattle.sig_c.specs.SmallC.{Place, Statements, none, Width, EndCause, EndRow}
use Rattle.sig_c.specs.Meaning.{Memory, Outcome, GoesOn, Returned, Functions, and_then, run}
use Rattle.sig_c_step.specs.Correct.{EndsAt, IsAbout, IsRowOf, cause_in_c}
use Rattle.sig_c_step.specs.Translation.{block, blocks, causes_of, doing, ends_of, is_left_out, joined, name_in, row_of, rows_of, subject_of}
use Rattle.sig_c_step.proofs.Guards.{always_holds, block_runs, guard_holds, guard_stays, never_holds}
use Rattle.sig_c_step.proofs.Likeness.{IsLike}
use Rattle.sig_c_step.proofs.Lists.{behind_all}
use Rattle.sig_c_step.proofs.OperationEnds.{Returns, ends_is}
use Rattle.sig_c_step.proofs.Operations.{AreWidths, MayCall, does_is, run_then}
use Rattle.sig_c_step.proofs.StateKinds.{AreKinded, does_kinded}

true_not_false : {B : Type 0} (b : Bool) → b ≡ true → b ≡ false → B
true_not_false {B} b one two = absurd (let e : true ≡ false = sym one ∙ two in cc e)

module _ (image : ImageView) (right : IsImage image) (sound : IsSoundImage image) (widths : Place → Width) (are : AreWidths image widths) (call : Functions)
    (may : (n : ℕ) (op : ImageOp) → slice_get image.ops n ≡ Some op → is_left_out op ≡ false → MayCall image call op.kind) (before : Memory) where
  -- A block has begun with these statements at one memory and leads to another one, which is like the state.
  record HasBegun (guard : ℕ) (body : Statements) (first : Memory) (s : State) (m : Memory) : Type 0 where
    on : Bool
    still : guard_holds image guard s ≡ on
    asks : (statements after : Statements) → run call widths (block image guard statements after) first ≡ and_then (if on then run call widths statements first else GoesOn first) (run call widths after)
    goes : (if on then run call widths body first else GoesOn first) ≡ GoesOn m
    like : IsLike image before s m
    kinded : AreKinded image s

  -- what follows the block is done at that memory
  goes_behind : (guard : ℕ) (body after : Statements) (first : Memory) (s : State) (m : Memory) → HasBegun guard body first s m
      → run call widths (block image guard body after) first ≡ run call widths after m
  goes_behind guard body after first s m begun = begun.asks body after ∙ ap (λ (o : Outcome). and_then o (run call widths after)) begun.goes

  at_state : (guard : ℕ) (body : Statements) (first : Memory) (s t : State) (m : Memory) → t ≡ s → HasBegun guard body first s m → HasBegun guard body first t m
  at_state guard body first s t m same begun = subst (λ (u : State). HasBegun guard body first u m) (sym same) begun

  -- operations of the image from a place on
  abbrev StandFrom : ℕ → List ImageOp → Type 0
  StandFrom n ops = (k : ℕ) → slice_get image.ops (n + k) ≡ slice_get ops k

  stand_later : (n : ℕ) (op : ImageOp) (ops : List ImageOp) → StandFrom n (op ∷ ops) → StandFrom (suc n) ops
  stand_later n op ops stand k = let e : suc n + k ≡ n + suc k = omega arith in ap (slice_get image.ops) e ∙ stand (suc k)

  stands : (n : ℕ) (op : ImageOp) (ops : List ImageOp) → StandFrom n (op ∷ ops) → slice_get image.ops n ≡ Some op
  stands n op ops stand = let e : n ≡ n + 0 = omega arith in ap (slice_get image.ops) e ∙ stand 0

  -- the rows of the ends of operations
  abbrev RowsFrom : ℕ → List ImageOp → Type 0
  RowsFrom code ops = (k : ℕ) → slice_get (ends_of image) (code + k) ≡ slice_get (flat_map (rows_of image) ops) k

  rows_here : (code : ℕ) (op : ImageOp) (ops : List ImageOp) → is_left_out op ≡ false → RowsFrom code (op ∷ ops)
      → (k : ℕ) → slice_get (ends_of image) (code + k) ≡ slice_get (map (row_of image op) (causes_of op.kind) ++ flat_map (rows_of image) ops) k
  rows_here code op ops kept rows k =
      rows k ∙ ap (λ (l : List EndRow). slice_get l k) (flat_map-cons (rows_of image) op ops
      ∙ ap (λ (b : Bool). (if b then [] else map (row_of image op) (causes_of op.kind)) ++ flat_map (rows_of image) ops) kept)

  rows_later : (code : ℕ) (op : ImageOp) (ops : List ImageOp) → is_left_out op ≡ false → RowsFrom code (op ∷ ops) → RowsFrom (code + length (causes_of op.kind)) ops
  rows_later code op ops kept rows k =
      let count : length (map (row_of image op) (causes_of op.kind)) ≡ length (causes_of op.kind) = length-map (causes_of op.kind) (row_of image op) in
      let e : (code + length (causes_of op.kind)) + k ≡ code + (length (map (row_of image op) (causes_of op.kind)) + k) = omega (arith, count) in
      ap (slice_get (ends_of image)) e ∙ rows_here code op ops kept rows (length (map (row_of image op) (causes_of op.kind)) + k)
      ∙ behind_all (map (row_of image op) (causes_of op.kind)) (flat_map (rows_of image) ops) k

  rows_past : (code : ℕ) (op : ImageOp) (ops : List ImageOp) → is_left_out op ≡ true → RowsFrom code (op ∷ ops) → RowsFrom code ops
  rows_past code op ops out rows k =
      rows k ∙ ap (λ (l : List EndRow). slice_get l k) (flat_map-cons (rows_of image) op ops
      ∙ ap (λ (b : Bool). (if b then [] else map (row_of image op) (causes_of op.kind)) ++ flat_map (rows_of image) ops) out)

  -- ---- one operation

  left_out_holds_not : (op : ImageOp) (s : State) → is_left_out op ≡ true → guard_holds image op.guard s ≡ false
  left_out_holds_not op s out = elim (eqb_tells op.guard 0) [
    | inl e ↦ never_holds image op.guard s e.1
    | inr e ↦ true_not_false (nat_eq op.guard 0) out e.0
  ]

  passes : (op : ImageOp) (s t : State) → guard_holds image op.guard s ≡ false → Handles (guards_of image) (guarded_in image.nodes op) s t → t ≡ s
  passes op s t off (inl done) = true_not_false (guard_holds image op.guard s) done.0 off
  passes op s t off (inr passed) = passed.1

  -- an operation is handled: its statements are done where its guard is true, and the guard stays what it is
  record IsHandled (code : ℕ) (op : ImageOp) (s t : State) (m : Memory) : Type 0 where
    after : Memory
    goes : (if guard_holds image op.guard s then run call widths (doing image code op.kind) m else GoesOn m) ≡ GoesOn after
    still : guard_holds image op.guard t ≡ guard_holds image op.guard s
    like : IsLike image before t after
    kinded : AreKinded image t

  handled : (n code : ℕ) (op : ImageOp) (s t : State) (m : Memory) → slice_get image.ops n ≡ Some op → is_left_out op ≡ false → IsLike image before s m → AreKinded image s
      → Handles (guards_of image) (guarded_in image.nodes op) s t → IsHandled code op s t m
  handled n code op s t m at kept like kinded (inl done) =
      let it = does_is image widths are call before s m like kinded code op.kind t right (operation_at image right n op at).kind (may n op at kept) done.1 in
      record {
        after = it.after;
        goes = ap (λ (b : Bool). if b then run call widths (doing image code op.kind) m else GoesOn m) done.0 ∙ it.goes;
        still = guard_stays image right sound n op s t at done.0 done.1 ∙ sym done.0;
        like = it.like;
        kinded = does_kinded image right op.kind s t (operation_at image right n op at).kind kinded done.1;
      }
  handled n code op s t m at kept like kinded (inr passed) = record {
    after = m;
    goes = ap (λ (b : Bool). if b then run call widths (doing image code op.kind) m else GoesOn m) passed.0;
    still = ap (guard_holds image op.guard) passed.1;
    like = subst (λ (u : State). IsLike image before u m) (sym passed.1) like;
    kinded = subst (AreKinded image) (sym passed.1) kinded;
  }

  -- the block goes on with an operation of its guard
  goes_on : (guard : ℕ) (body : Statements) (first : Memory) (s t : State) (m : Memory) (code : ℕ) (op : ImageOp) → op.guard ≡ guard → HasBegun guard body first s m → (it : IsHandled code op s t m)
      → HasBegun guard (joined body (doing image code op.kind)) first t it.after
  goes_on guard body first s t m code op same begun it = record {
    on = begun.on;
    still = ap (λ (g : ℕ). guard_holds image g t) (sym same) ∙ it.still ∙ ap (λ (g : ℕ). guard_holds image g s) same ∙ begun.still;
    asks = begun.asks;
    goes = by begun.on begun.goes (ap (λ (b : Bool). if b then run call widths (doing image code op.kind) m else GoesOn m) (sym (ap (λ (g : ℕ). guard_holds image g s) same ∙ begun.still)) ∙ it.goes);
    like = it.like;
    kinded = it.kinded;
  } where
    by : (b : Bool) → (if b then run call widths body first else GoesOn first) ≡ GoesOn m → (if b then run call widths (doing image code op.kind) m else GoesOn m) ≡ GoesOn it.after
        → (if b then run call widths (joined body (doing image code op.kind)) first else GoesOn first) ≡ GoesOn it.after
    by true one two = run_then call widths body (doing image code op.kind) first ∙ ap (λ (o : Outcome). and_then o (run call widths (doing image code op.kind))) one ∙ two
    by false one two = one ∙ two

  -- a block begins with an operation
  begins : (s t : State) (m : Memory) (code : ℕ) (op : ImageOp) → IsLike image before s m → AreKinded image s → (it : IsHandled code op s t m)
      → HasBegun op.guard (doing image code op.kind) m t it.after
  begins s t m code op like kinded it = record {
    on = guard_holds image op.guard s;
    still = it.still;
    asks = λ statements after. block_runs image right widths call before s m like kinded op.guard statements after (guard_holds image op.guard s) refl;
    goes = it.goes;
    like = it.like;
    kinded = it.kinded;
  }

  -- ---- the forms of blocks

  left_out : (guard : ℕ) (body : Statements) (code : ℕ) (op : ImageOp) (ops : List ImageOp) → is_left_out op ≡ true → blocks image guard body code (op ∷ ops) ≡ blocks image guard body code ops
  left_out guard body code op ops out = rw out refl

  in_block : (guard : ℕ) (body : Statements) (code : ℕ) (op : ImageOp) (ops : List ImageOp) → is_left_out op ≡ false → nat_eq op.guard guard ≡ true
      → blocks image guard body code (op ∷ ops) ≡ blocks image guard (joined body (doing image code op.kind)) (code + length (causes_of op.kind)) ops
  in_block guard body code op ops kept same = rw kept (rw same refl)

  next_block : (guard : ℕ) (body : Statements) (code : ℕ) (op : ImageOp) (ops : List ImageOp) → is_left_out op ≡ false → nat_eq op.guard guard ≡ false
      → blocks image guard body code (op ∷ ops) ≡ block image guard body (blocks image op.guard (doing image code op.kind) (code + length (causes_of op.kind)) ops)
  next_block guard body code op ops kept other = rw kept (rw other refl)

  abbrev Run : Statements → Memory → Outcome
  Run statements m = run call widths statements m

  -- how the first operation is written
  data Written (guard : ℕ) (op : ImageOp) : Type 0 where
    is_out : is_left_out op ≡ true → Written guard op
    is_in : is_left_out op ≡ false → nat_eq op.guard guard ≡ true → op.guard ≡ guard → Written guard op
    is_next : is_left_out op ≡ false → nat_eq op.guard guard ≡ false → Written guard op

  how_written : (guard : ℕ) (op : ImageOp) → Written guard op
  how_written guard op = by (is_left_out op) refl where
    by : (b : Bool) → is_left_out op ≡ b → Written guard op
    by true e = is_out e
    by false e = elim (eqb_tells op.guard guard) [ inl f ↦ is_in e f.0 f.1 | inr f ↦ is_next e f.0 ]

  -- ---- all operations

  pub record Leads (statements : Statements) (first : Memory) (t : State) : Type 0 where
    pub after : Memory
    pub goes : run call widths statements first ≡ GoesOn after
    pub like : IsLike image before t after
    pub kinded : AreKinded image t

  leads_so : (a b : Statements) (first m : Memory) (t : State) → run call widths a first ≡ run call widths b m → Leads b m t → Leads a first t
  leads_so a b first m t same led = record { after = led.after; goes = same ∙ led.goes; like = led.like; kinded = led.kinded }

  blocks_go : (ops : List ImageOp) (n code guard : ℕ) (body : Statements) (first : Memory) (s t : State) (m : Memory) → HasBegun guard body first s m → StandFrom n ops
      → HandlesAll (guards_of image) (map (guarded_in image.nodes) ops) s t → Leads (blocks image guard body code ops) first t
  blocks_go [] n code guard body first s t m begun stand e = record {
    after = m;
    goes = goes_behind guard body none first s m begun;
    like = subst (λ (u : State). IsLike image before u m) (sym e) begun.like;
    kinded = subst (AreKinded image) (sym e) begun.kinded;
  }
  blocks_go (op ∷ ops) n code guard body first s t m begun stand (middle, one, rest) = by (how_written guard op)
      (λ after. blocks_go ops (suc n) code guard body first middle t m after (stand_later n op ops stand) rest)
      (λ more_body later after. blocks_go ops (suc n) (code + length (causes_of op.kind)) guard more_body first middle t later after (stand_later n op ops stand) rest)
      (λ later after. blocks_go ops (suc n) (code + length (causes_of op.kind)) op.guard (doing image code op.kind) m middle t later after (stand_later n op ops stand) rest)
    where
      by : Written guard op → (HasBegun guard body first middle m → Leads (blocks image guard body code ops) first t)
          → ((more_body : Statements) (later : Memory) → HasBegun guard more_body first middle later → Leads (blocks image guard more_body (code + length (causes_of op.kind)) ops) first t)
          → ((later : Memory) → HasBegun op.guard (doing image code op.kind) m middle later → Leads (blocks image op.guard (doing image code op.kind) (code + length (causes_of op.kind)) ops) m t)
          → Leads (blocks image guard body code (op ∷ ops)) first t
      by (is_out e) past on_with anew =
          let same = passes op s middle (left_out_holds_not op s e) one in
          leads_so (blocks image guard body code (op ∷ ops)) (blocks image guard body code ops) first first t (ap (λ (b : Statements). run call widths b first) (left_out guard body code op ops e))
          (past (at_state guard body first s middle m same begun))
      by (is_in kept is equal) past on_with anew =
          let it = handled n code op s middle m (stands n op ops stand) kept begun.like begun.kinded one in
          leads_so (blocks image guard body code (op ∷ ops)) (blocks image guard (joined body (doing image code op.kind)) (code + length (causes_of op.kind)) ops) first first t
          (ap (λ (b : Statements). run call widths b first) (in_block guard body code op ops kept is))
          (on_with (joined body (doing image code op.kind)) it.after (goes_on guard body first s middle m code op equal begun it))
      by (is_next kept is) past on_with anew =
          let it = handled n code op s middle m (stands n op ops stand) kept begun.like begun.kinded one in
          let later = blocks image op.guard (doing image code op.kind) (code + length (causes_of op.kind)) ops in
          leads_so (blocks image guard body code (op ∷ ops)) later first m t
          (ap (λ (b : Statements). run call widths b first) (next_block guard body code op ops kept is) ∙ goes_behind guard body later first s m begun)
          (anew it.after (begins s middle m code op begun.like begun.kinded it))

  module _ (start : State) where
    -- ---- an end

    -- The statements return the number of a row that tells the cause; the fields and the outputs are as before.
    pub record Refuses (statements : Statements) (first : Memory) (because : ImageCause) : Type 0 where
      pub number : ℕ
      pub after : Memory
      pub returns : run call widths statements first ≡ Returned number after
      pub state : State
      pub like : IsLike image before state after
      pub row : EndRow
      pub at : slice_get (ends_of image) number ≡ Some row
      pub tells : IsRowOf image start row because

    refuses_so : (a b : Statements) (first m : Memory) (because : ImageCause) → run call widths a first ≡ run call widths b m → Refuses b m because → Refuses a first because
    refuses_so a b first m because same it = record {
      number = it.number;
      after = it.after;
      returns = same ∙ it.returns;
      state = it.state;
      like = it.like;
      row = it.row;
      at = it.at;
      tells = it.tells;
    }

    -- what a block returns that has begun, it returns however it goes on
    block_returns : (ops : List ImageOp) (code guard : ℕ) (body : Statements) (first after : Memory) (number : ℕ)
        → ((statements rest : Statements) → run call widths (block image guard statements rest) first ≡ and_then (run call widths statements first) (run call widths rest))
        → run call widths body first ≡ Returned number after → run call widths (blocks image guard body code ops) first ≡ Returned number after
    block_returns [] code guard body first after number asks returns = asks body none ∙ ap (λ (o : Outcome). and_then o (run call widths none)) returns
    block_returns (op ∷ ops) code guard body first after number asks returns = by (how_written guard op)
        (block_returns ops code guard body first after number asks returns)
        (block_returns ops (code + length (causes_of op.kind)) guard (joined body (doing image code op.kind)) first after number asks
        (run_then call widths body (doing image code op.kind) first ∙ ap (λ (o : Outcome). and_then o (run call widths (doing image code op.kind))) returns))
      where
        by : Written guard op → run call widths (blocks image guard body code ops) first ≡ Returned number after
            → run call widths (blocks image guard (joined body (doing image code op.kind)) (code + length (causes_of op.kind)) ops) first ≡ Returned number after
            → run call widths (blocks image guard body code (op ∷ ops)) first ≡ Returned number after
        by (is_out e) past on_with = ap (λ (b : Statements). run call widths b first) (left_out guard body code op ops e) ∙ past
        by (is_in kept is equal) past on_with = ap (λ (b : Statements). run call widths b first) (in_block guard body code op ops kept is) ∙ on_with
        by (is_next kept is) past on_with =
            let later = blocks image op.guard (doing image code op.kind) (code + length (causes_of op.kind)) ops in
            ap (λ (b : Statements). run call widths b first) (next_block guard body code op ops kept is) ∙ asks body later ∙ ap (λ (o : Outcome). and_then o (run call widths later)) returns

    -- the end of the first of these operations is one of all of them
    abbrev IsReached : (n : ℕ) → List ImageOp → State → ImageCause → Type 0
    IsReached n ops s because = (place : ℕ) (state : State) → EndsAt (guards_of image) (map (guarded_in image.nodes) ops) s because place state
        → EndsAt (guards_of image) (guards_of image).ops start because (n + place) state

    reached_later : (n : ℕ) (op : ImageOp) (ops : List ImageOp) (s middle : State) (because : ImageCause) → Handles (guards_of image) (guarded_in image.nodes op) s middle
        → IsReached n (op ∷ ops) s because → IsReached (suc n) ops middle because
    reached_later n op ops s middle because one reached place state ends =
        let e : n + suc place ≡ suc n + place = omega arith in
        subst (λ (k : ℕ). EndsAt (guards_of image) (guards_of image).ops start because k state) e (reached (suc place) state (middle, one, ends))

    reached_here : (n : ℕ) (op : ImageOp) (ops : List ImageOp) (s : State) (because : ImageCause) → IsReached n (op ∷ ops) s because → guard_holds image op.guard s ≡ true → Ends op.kind op.at s because
        → EndsAt (guards_of image) (guards_of image).ops start because n s
    reached_here n op ops s because reached on ends =
        let e : n + 0 ≡ n = omega arith in
        subst (λ (k : ℕ). EndsAt (guards_of image) (guards_of image).ops start because k s) e (reached 0 s (on, ends, refl))

    -- the signal of an operation that may end a run
    signal_of_end : (kind : ImageOpKind) (place : ℕ) (told : EndCause) → MayDo (scope_of image) kind → slice_get (causes_of kind) place ≡ Some told
        → IsAbout kind (subject_of kind) × (subject_of kind < length image.signals)
    signal_of_end (does.Read x) place told can is = (refl, writes_within image right (does.Read x) can x refl)
    signal_of_end (does.Fun y op operands) place told can is = (refl, writes_within image right (does.Fun y op operands) can y refl)
    signal_of_end kind place told can is = none_is told is

    -- the row of an end of the first operation
    row_told : (n code : ℕ) (op : ImageOp) (ops : List ImageOp) (s : State) (place : ℕ) (told : EndCause) (because : ImageCause) → slice_get image.ops n ≡ Some op → is_left_out op ≡ false → RowsFrom code (op ∷ ops)
        → EndsAt (guards_of image) (guards_of image).ops start because n s → Ends op.kind op.at s because → slice_get (causes_of op.kind) place ≡ Some told → told ≡ cause_in_c because
        → (row : EndRow) × (slice_get (ends_of image) (code + place) ≡ Some row) × IsRowOf image start row because
    row_told n code op ops s place told because at kept rows reached ends is tells =
        let (about, inside) = signal_of_end op.kind place told (operation_at image right n op at).kind is in
        let (signal, there) = some_at image.signals (subject_of op.kind) inside in (
          row_of image op told,
          rows_here code op ops kept rows place
              ∙ still_at (map (row_of image op) (causes_of op.kind)) (flat_map (rows_of image) ops) place (row_of image op told)
              (slice_get-map (row_of image op) (causes_of op.kind) place ∙ ap (option_map (row_of image op)) is),
          record {
            place = n;
            state = s;
            stops = reached;
            op = op;
            at = at;
            ends = ends;
            about = subject_of op.kind;
            is_about = about;
            signal = signal;
            is_signal = there;
            cause_is = tells;
            line_is = refl;
            column_is = refl;
            name_is = ap name_in there;
          },
        )

    -- an operation that is done ends the run
    stops : (n code guard : ℕ) (body : Statements) (first : Memory) (s : State) (m : Memory) (op : ImageOp) (ops : List ImageOp) (because : ImageCause) → HasBegun guard body first s m
        → slice_get image.ops n ≡ Some op → RowsFrom code (op ∷ ops) → guard_holds image op.guard s ≡ true → Ends op.kind op.at s because → EndsAt (guards_of image) (guards_of image).ops start because n s
        → Refuses (blocks image guard body code (op ∷ ops)) first because
    stops n code guard body first s m op ops because begun at rows on ends reached = by (how_written guard op) where
      module_of : is_left_out op ≡ false → Returns image widths are call before s m begun.like begun.kinded code op.kind op.at because
      module_of kept = ends_is image widths are call before s m begun.like begun.kinded code op.kind op.at because right (operation_at image right n op at).kind (may n op at kept) ends

      told_so : (kept : is_left_out op ≡ false) → (it : Returns image widths are call before s m begun.like begun.kinded code op.kind op.at because)
          → run call widths (blocks image guard body code (op ∷ ops)) first ≡ Returned it.number m → Refuses (blocks image guard body code (op ∷ ops)) first because
      told_so kept it returns =
          let (row, is, tells) = row_told n code op ops s it.place it.told because at kept rows reached ends it.is it.tells in
          record {
            number = it.number;
            after = m;
            returns = returns;
            state = s;
            like = begun.like;
            row = row;
            at = ap (slice_get (ends_of image)) it.counted ∙ is;
            tells = tells;
          }

      by : Written guard op → Refuses (blocks image guard body code (op ∷ ops)) first because
      by (is_out e) = true_not_false (guard_holds image op.guard s) on (left_out_holds_not op s e)
      by (is_in kept is equal) =
          let it = module_of kept in
          let truly : begun.on ≡ true = sym begun.still ∙ ap (λ (g : ℕ). guard_holds image g s) (sym equal) ∙ on in
          let goes : run call widths body first ≡ GoesOn m = ap (λ (b : Bool). if b then run call widths body first else GoesOn first) (sym truly) ∙ begun.goes in
          told_so kept it
          (ap (λ (b : Statements). run call widths b first) (in_block guard body code op ops kept is)
          ∙ block_returns ops (code + length (causes_of op.kind)) guard (joined body (doing image code op.kind)) first m it.number
          (λ statements rest. begun.asks statements rest ∙ ap (λ (b : Bool). and_then (if b then run call widths statements first else GoesOn first) (run call widths rest)) truly)
          (run_then call widths body (doing image code op.kind) first ∙ ap (λ (o : Outcome). and_then o (run call widths (doing image code op.kind))) goes ∙ it.returns))
      by (is_next kept is) =
          let it = module_of kept in
          let later = blocks image op.guard (doing image code op.kind) (code + length (causes_of op.kind)) ops in
          told_so kept it
          (ap (λ (b : Statements). run call widths b first) (next_block guard body code op ops kept is) ∙ goes_behind guard body later first s m begun
          ∙ block_returns ops (code + length (causes_of op.kind)) op.guard (doing image code op.kind) m m it.number
          (λ statements rest. block_runs image right widths call before s m begun.like begun.kinded op.guard statements rest true on) it.returns)

    blocks_end : (ops : List ImageOp) (n code guard : ℕ) (body : Statements) (first : Memory) (s : State) (m : Memory) (because : ImageCause) → HasBegun guard body first s m → StandFrom n ops → RowsFrom code ops → IsReached n ops s because
        → EndsIn (guards_of image) (map (guarded_in image.nodes) ops) s because → Refuses (blocks image guard body code ops) first because
    blocks_end [] n code guard body first s m because begun stand rows reached ends = absurd ends
    blocks_end (op ∷ ops) n code guard body first s m because begun stand rows reached (inl here) =
        stops n code guard body first s m op ops because begun (stands n op ops stand) rows here.0 here.1 (reached_here n op ops s because reached here.0 here.1)
    blocks_end (op ∷ ops) n code guard body first s m because begun stand rows reached (inr (middle, one, rest)) = by (how_written guard op)
        (λ e after. blocks_end ops (suc n) code guard body first middle m because after (stand_later n op ops stand) (rows_past code op ops e rows) (reached_later n op ops s middle because one reached) rest)
        (λ kept more_body later after. blocks_end ops (suc n) (code + length (causes_of op.kind)) guard more_body first middle later because after (stand_later n op ops stand) (rows_later code op ops kept rows) (reached_later n op ops s middle because one reached) rest)
        (λ kept later after. blocks_end ops (suc n) (code + length (causes_of op.kind)) op.guard (doing image code op.kind) m middle later because after (stand_later n op ops stand) (rows_later code op ops kept rows) (reached_later n op ops s middle because one reached) rest)
      where
        by : Written guard op → (is_left_out op ≡ true → HasBegun guard body first middle m → Refuses (blocks image guard body code ops) first because)
            → (is_left_out op ≡ false → (more_body : Statements) (later : Memory) → HasBegun guard more_body first middle later → Refuses (blocks image guard more_body (code + length (causes_of op.kind)) ops) first because)
            → (is_left_out op ≡ false → (later : Memory) → HasBegun op.guard (doing image code op.kind) m middle later → Refuses (blocks image op.guard (doing image code op.kind) (code + length (causes_of op.kind)) ops) m because)
            → Refuses (blocks image guard body code (op ∷ ops)) first because
        by (is_out e) past on_with anew =
            let unchanged = passes op s middle (left_out_holds_not op s e) one in
            refuses_so (blocks image guard body code (op ∷ ops)) (blocks image guard body code ops) first first because (ap (λ (b : Statements). run call widths b first) (left_out guard body code op ops e))
            (past e (at_state guard body first s middle m unchanged begun))
        by (is_in kept is equal) past on_with anew =
            let it = handled n code op s middle m (stands n op ops stand) kept begun.like begun.kinded one in
            refuses_so (blocks image guard body code (op ∷ ops)) (blocks image guard (joined body (doing image code op.kind)) (code + length (causes_of op.kind)) ops) first first because
            (ap (λ (b : Statements). run call widths b first) (in_block guard body code op ops kept is))
            (on_with kept (joined body (doing image code op.kind)) it.after (goes_on guard body first s middle m code op equal begun it))
        by (is_next kept is) past on_with anew =
            let it = handled n code op s middle m (stands n op ops stand) kept begun.like begun.kinded one in
            let later = blocks image op.guard (doing image code op.kind) (code + length (causes_of op.kind)) ops in
            refuses_so (blocks image guard body code (op ∷ ops)) later first m because
            (ap (λ (b : Statements). run call widths b first) (next_block guard body code op ops kept is) ∙ goes_behind guard body later first s m begun)
            (anew kept it.after (begins s middle m code op begun.like begun.kinded it))

  -- ---- from the first operation on

  from_first : (s : State) (m : Memory) → IsLike image before s m → AreKinded image s → HasBegun 1 none m s m
  from_first s m like kinded = record {
    on = true;
    still = always_holds image 1 s refl;
    asks = λ statements after. block_runs image right widths call before s m like kinded 1 statements after true (always_holds image 1 s refl);
    goes = refl;
    like = like;
    kinded = kinded;
  }

  all_stand : StandFrom 0 image.ops
  all_stand k = let e : 0 + k ≡ k = omega arith in ap (slice_get image.ops) e

  all_rows : RowsFrom 1 image.ops
  all_rows k = let e : 1 + k ≡ suc k = omega arith in ap (slice_get (ends_of image)) e

  pub operations_go : (s t : State) (m : Memory) → IsLike image before s m → AreKinded image s → HandlesAll (guards_of image) (guards_of image).ops s t → Leads (blocks image 1 none 1 image.ops) m t
  operations_go s t m like kinded handles = blocks_go image.ops 0 1 1 none m s t m (from_first s m like kinded) all_stand handles

  pub operations_end : (s : State) (m : Memory) (because : ImageCause) → IsLike image before s m → AreKinded image s → EndsIn (guards_of image) (guards_of image).ops s because
      → Refuses s (blocks image 1 none 1 image.ops) m because
  operations_end s m because like kinded ends = blocks_end s image.ops 0 1 1 none m s m because (from_first s m like kinded) all_stand all_rows all_reached ends
    where
      all_reached : IsReached s 0 image.ops s because
      all_reached place state ends_at = let e : 0 + place ≡ place = omega arith in subst (λ (k : ℕ). EndsAt (guards_of image) (guards_of image).ops s because k state) (sym e) ends_at
