-- `receiver::finish` meets its contract: by the verdict of the rules and of the mark. Assumes nothing.
use mathlib.Core.Path.{◌≡◌, sym, ap, ◌∙◌}
use mathlib.Core.Bool.{Bool, true, false}
use mathlib.Core.List.{List}
use Prim.Native.Nat.{ℕ}
use Rattle.std.specs.Prelude.{Some, Result, Ok, Err}
use Rattle.laws.specs.Choice.{pick, alike}
use Rattle.refusals.specs.declared.Refusal.{Refusal}
use Rattle.refusals.specs.Told.{Numbers, numbers_of, untabled, Told, accepted, refused_by, refused}
use Rattle.refusals.proofs.Told.{same_numbers, accepted_once, told_apart}
use Rattle.layout.specs.Flat.{Flat}
use Rattle.coding.specs.Kind.{coding_of}
use Rattle.decoder.specs.Decoded.{told_drawn, judged_mark, tr_by, drawn_by, marked_tr, marked_store}
use Rattle.vault.specs.declared.Header.{Header}
use Rattle.standing.specs.Stores.{Stores, stores, reference}
use Rattle.standing.specs.declared.Receiver.{Receiver}
use Rattle.standing.specs.declared.Received.{Received}
use Rattle.standing.specs.Answered.{reply, told_received}
use Rattle.standing.specs.Answered as A
use Rattle.standing.specs.Receive.{failed, finished, mark_of, count_of, ended_picture, failed_receiver, tick_in, finished_reply}
use Rattle.stores.specs.Kept.{stores_or}
use Rattle.receiver.specs.Receiving.{Settles}
use Rattle.receiver.proofs.finish.Goals as goal

module _ (r : Receiver) (header : Header) (s : Stores) where
  -- the mark that the picture came with, and what is judged of what was read
  abbrev judged : Told Flat → Told Flat
  judged read = judged_mark (coding_of r.kind) (Some (mark_of r.progress header)) read

  -- what is drawn of it
  abbrev drawn : Told Flat → Told (List ℕ)
  drawn x = drawn_by (coding_of r.kind) (reference r.last.holder s) x

  module _ {x : Received} {t : Stores} where
    ends : {tr : ℕ} (read : Told Flat) → accepted tr ≡ tr_by (coding_of r.kind) (judged read) → t ≡ stores_or r.last.holder s (drawn (judged read))
        → told_received x ≡ finished_reply r header (tick_in (coding_of r.kind).modulus r.last header.picture tr) → Settles coding_of r s (ended_picture coding_of r header read) x t
    unfolding ended_picture stores_or
    ends (refused_by numbers) v k h = absurd (told_apart v)
    ends {tr} (accepted d) v k h = by_mark (alike ((coding_of r.kind).refresh d) (mark_of r.progress header)) v k
      where
        by_mark : (b : Bool) → accepted tr ≡ tr_by (coding_of r.kind) (pick b (accepted d) (refused 24 0))
            → t ≡ stores_or r.last.holder s (drawn (pick b (accepted d) (refused 24 0)))
            → Settles coding_of r s (pick b (finished header d) (failed header (untabled 24 0))) x t
        by_mark true v k =
            record { gave = h ∙ ap (λ (n : ℕ). finished_reply r header (tick_in (coding_of r.kind).modulus r.last header.picture n)) (accepted_once v); left = k }
        by_mark false v k = absurd (told_apart v)

    fails : {numbers : Numbers} (read : Told Flat) → refused_by numbers ≡ tr_by (coding_of r.kind) (judged read) → t ≡ stores_or r.last.holder s (drawn (judged read))
        → told_received x ≡ reply (A.refused numbers) (failed_receiver r header) → Settles coding_of r s (ended_picture coding_of r header read) x t
    unfolding ended_picture stores_or
    fails (refused_by others) v k h = record { gave = h ∙ ap (λ (n : Numbers). reply (A.refused n) (failed_receiver r header)) (same_numbers v); left = k }
    fails {numbers} (accepted d) v k h = by_mark (alike ((coding_of r.kind).refresh d) (mark_of r.progress header)) v k
      where
        by_mark : (b : Bool) → refused_by numbers ≡ tr_by (coding_of r.kind) (pick b (accepted d) (refused 24 0))
            → t ≡ stores_or r.last.holder s (drawn (pick b (accepted d) (refused 24 0)))
            → Settles coding_of r s (pick b (finished header d) (failed header (untabled 24 0))) x t
        by_mark true v k = absurd (told_apart (sym v))
        by_mark false v k = record { gave = h ∙ ap (λ (n : Numbers). reply (A.refused n) (failed_receiver r header)) (same_numbers v); left = k }

  -- ---- by what `keep_read` answers
  module _ {count : ℕ} {marked : Bool} (collection : List ℕ) (n : count ≡ count_of header) (m : marked ≡ mark_of r.progress header) where
    abbrev read : Told Flat
    read = (coding_of r.kind).read collection (count_of header)

    tr_is : marked_tr r.kind (Some marked) collection count ≡ tr_by (coding_of r.kind) (judged read)
    unfolding marked_tr
    tr_is = λ i. tr_by (coding_of r.kind) (judged_mark (coding_of r.kind) (Some (m i)) ((coding_of r.kind).read collection (n i)))

    store_is : marked_store r.kind (Some marked) collection count (reference r.last.holder s) ≡ drawn (judged read)
    unfolding marked_store
    store_is = λ i. drawn_by (coding_of r.kind) (reference r.last.holder s) (judged_mark (coding_of r.kind) (Some (m i)) ((coding_of r.kind).read collection (n i)))

    module _ (answer : Result ℕ Refusal) {x : Received} {t : Stores} (v : told_drawn answer ≡ marked_tr r.kind (Some marked) collection count)
        (k : t ≡ stores_or r.last.holder s (marked_store r.kind (Some marked) collection count (reference r.last.holder s))) where
      picture_so : (tr : ℕ) → answer ≡ Ok tr → told_received x ≡ finished_reply r header (tick_in (coding_of r.kind).modulus r.last header.picture tr)
          → Settles coding_of r s (ended_picture coding_of r header read) x t
      picture_so tr e h = ends read (sym (ap told_drawn e) ∙ v ∙ tr_is) (k ∙ ap (stores_or r.last.holder s) store_is) h

      refused_so : {why : Refusal} → answer ≡ Err why → told_received x ≡ reply (A.refused (numbers_of why)) (failed_receiver r header)
          → Settles coding_of r s (ended_picture coding_of r header read) x t
      refused_so e h = fails read (sym (ap told_drawn e) ∙ v ∙ tr_is) (k ∙ ap (stores_or r.last.holder s) store_is) h

pub keep_read-drawn-requires : goal.keep_read-drawn-requires
keep_read-drawn-requires c =
    record { reference_long = c.requires.first_long; store_long = c.requires.second_long }

pub returns-in-Err : goal.returns-in-Err
returns-in-Err c =
    refused_so c.args.receiver c.args.header (stores c.args.first.now c.args.second.now) c.args.collection.now
    c.count_of-count.ensures c.mark_with-marked.ensures
    c.keep_read-drawn.result c.keep_read-drawn.ensures.answer c.keep_read-drawn.ensures.samples c.in-Err.is c.fail.ensures

pub returns-in-Ok : goal.returns-in-Ok
returns-in-Ok c =
    picture_so c.args.receiver c.args.header (stores c.args.first.now c.args.second.now) c.args.collection.now
    c.count_of-count.ensures c.mark_with-marked.ensures
    c.keep_read-drawn.result c.keep_read-drawn.ensures.answer c.keep_read-drawn.ensures.samples _ c.in-Ok.is c.succeed.ensures
