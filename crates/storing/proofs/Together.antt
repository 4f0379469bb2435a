-- A signature that is stored, read and stored again. Assumes nothing.
use mathlib.Core.Path.{◌≡◌, refl, sym, ap, ◌∙◌}
use mathlib.Core.Bool.{Bool, true, false, cond}
use mathlib.Core.List.{List, ◌++◌}
use mathlib.Core.Option.{Option, none, some}
use Prim.Native.Nat.{ℕ, ◌+◌, ◌*◌, ◌/◌, ◌≤◌}
use native.Mathlib.Nat.{le_trans}
use native.Mathlib.Omega.{arith}
use borrow.Author.Tests.{eq-eqb}
use lib.IntN.{ℤ, pos}
use lib.ListN.{length, take, drop, get_or, replicate, length-drop, length-replicate}
use lib.Seq.{take-append_seam, length-take-le}
use mir.Val.{bool_byte}
use Rattle.bits.specs.Bits.{odd}
use Rattle.bits.specs.Items.{given, stands, items_of}
use Rattle.bits.proofs.Reading.{IfGiven}
use Rattle.lists.proofs.AtTheStart.{take_written}
use Rattle.signed.specs.Vectors.{all_within}
use Rattle.signed.proofs.Vectors.{zeros_within, within_at, first_within, within_drop}
use Rattle.checks.proofs.RefusalTable.{holds_unless}
use Rattle.challenge.specs.Challenge.{is_challenge}
use Rattle.challenge_product.specs.Product.{product}
use Rattle.challenge_product.proofs.ProductSizes.{product_within, length_product}
use Rattle.response.specs.Response.{subtracts, response_of, response_z, responded_by}
use Rattle.response.proofs.Passes.{response_within, length_response}
use Rattle.session.specs.declared.Session.{Session}
use Rattle.session.specs.Calls.{Respond, bit_of_respond, z_of_respond, respond_served, respond_left}
use Rattle.session.proofs.Calls.{respond_left_lem, respond_passed}
use Rattle.record.specs.Record.{FieldSet, value_limit, is_half, is_field_set, record_of}
use Rattle.record.proofs.FieldSets.{is_field_set_lem}
use Rattle.record.specs.OneForOne.{longest}
use Rattle.record.proofs.OneForOne.{longest_record}
use Rattle.record_writer.specs.Call.{told, write_left}
use Rattle.storing.proofs.Writing.{write_served_lem, storable_served, refusal_is, writes_the_record}
use Rattle.record_reader.specs.Call.{contents_of, have_room, ReadLeft, read_served, read_left}
use Rattle.record_reader.proofs.ReadLaws.{fits}
use Rattle.storing.proofs.Reading.{fails_short, read_of_record, with_room, read_served_lem, reads_the_fields}
use Rattle.storing.specs.Reading.{Short, Gives}
use Rattle.storing.specs.Together.{told_again, WrittenIsRead, ReadIsWritten, ResponsesAreStored, HalvesAreStored}

-- ** What is written is read

-- bytes that are the record of a field set, read with room for its fields
read_so : (f : FieldSet) (bytes challenge : List ℕ) (z1 z2 : List ℤ) → is_field_set f ≡ true → bytes ≡ record_of f
    → (Short f (length challenge) (length z1) (length z2) → ⊥) → let read = read_left bytes challenge z1 z2 in
    (read.contents.refusal ≡ 0) × Gives f challenge z1 z2 read
unfolding contents_of
read_so f bytes challenge z1 z2 h is room =
    let r = holds_unless (fails_short f (length challenge) (length z1) (length z2)) room in
    let same = read_of_record f challenge z1 z2 h ∙ with_room f challenge z1 z2 r in
    let served = ap (λ (left : ReadLeft). left.contents.refusal) same in
    rw is (served, reads_the_fields f challenge z1 z2 h served)

pub written_is_read : WrittenIsRead
written_is_read n fields challenge z1 z2 out to_challenge to_z1 to_z2 h room =
    let f = told n fields challenge z1 z2 in
    let w = write_served_lem f (length out) (sym (refusal_is f out) ∙ h) in
    let left = (writes_the_record f out).served h in
    let bytes : take (write_left f out).written.length (write_left f out).out ≡ record_of f =
    rw (left.0, left.1) (take-append_seam (record_of f) (drop (length (record_of f)) out)) in
    read_so f _ to_challenge to_z1 to_z2 w.storable bytes room

-- ** What is read is written again

-- the bits of a map
map_bits : (c a b : Bool) → let map = bool_byte c + 2 * bool_byte a + 4 * bool_byte b in
    (odd map ≡ c) × (odd (map / 2) ≡ a) × (odd (map / 4) ≡ b)
map_bits true true true = (refl, refl, refl)
map_bits true true false = (refl, refl, refl)
map_bits true false true = (refl, refl, refl)
map_bits true false false = (refl, refl, refl)
map_bits false true true = (refl, refl, refl)
map_bits false true false = (refl, refl, refl)
map_bits false false true = (refl, refl, refl)
map_bits false false false = (refl, refl, refl)

-- a field, by its bit and its items
given_items : {A : Type 0} (field : Option (List A)) → given (stands field) (items_of field) ≡ field
unfolding given stands items_of
given_items none = refl
given_items (some items) = refl

told_again_lem : (f : FieldSet) (challenge : List ℕ) (z1 z2 : List ℤ) → have_room (contents_of f) (length challenge) (length z1) (length z2) ≡ true
    → told_again (read_served f challenge z1 z2) ≡ f
unfolding contents_of
told_again_lem f challenge z1 z2 h =
    let r = fits (contents_of f) (length challenge) (length z1) (length z2) h in
    let m = map_bits (stands f.challenge) (stands f.z1) (stands f.z2) in
    rw (
      m.0,
      m.1,
      m.2,
      take_written challenge (items_of f.challenge) r.0,
      take_written z1 (items_of f.z1) r.1,
      take_written z2 (items_of f.z2) r.2,
      given_items f.challenge,
      given_items f.z1,
      given_items f.z2,
    )

written_so : (f : FieldSet) (bytes out : List ℕ) → is_field_set f ≡ true → record_of f ≡ bytes → length bytes ≤ length out →
    let left = write_left f out in
    (left.written.refusal ≡ 0) × (left.written.length ≡ length bytes) × (left.out ≡ bytes ++ drop (length bytes) out)
written_so f bytes out h is enough =
    let room : length (record_of f) ≤ length out = rw is enough in
    let served = refusal_is f out ∙ storable_served f (length out) h room in
    let left = (writes_the_record f out).served served in
    rw (← is) (served, left.0, left.1)

pub read_is_written : ReadIsWritten
read_is_written bytes challenge z1 z2 out small h enough =
    let r = read_served_lem bytes challenge z1 z2 small h in
    let same : told_again (read_left bytes challenge z1 z2) ≡ r.set =
    ap told_again r.left_is ∙ told_again_lem r.set challenge z1 z2 r.room in
    rw same (written_so r.set bytes out r.storable r.stored enough)

-- ** Responses

-- both halves of 2n values that are not too large can be stored
halves_right : (n : ℕ) (z : List ℤ) → length z ≡ 2 * n → all_within value_limit z ≡ true
    → (is_half n (take n z) ≡ true) × (is_half n (drop n z) ≡ true)
halves_right n z l h =
    let first : length (take n z) ≡ n = length-take-le n z (omega (arith, l)) in
    let last : length (drop n z) ≡ n = length-drop n z ∙ omega (arith, l) in
    let low = (first_within value_limit n z).1 (λ i g. within_at value_limit z h i) in
    (rw (eq-eqb (length (take n z)) n first) low, rw (eq-eqb (length (drop n z)) n last) (within_drop value_limit n z h))

-- z, whichever its bit is
pub record Handed (n : ℕ) (z : List ℤ) : Type 0 where
  pub long : length z ≡ 2 * n
  pub small : all_within value_limit z ≡ true

handed_by : (n : ℕ) (accepted : Bool) (z : List ℤ) → Handed n z → Handed n (cond accepted z (replicate (2 * n) (pos 0)))
handed_by n true z h = h
handed_by n false z h = record { long = length-replicate (2 * n) (pos 0); small = zeros_within value_limit (2 * n) }

z_handed : (s : Session) (r : Respond) → (respond_left s r).responded.answer.refusal ≡ 0 → Handed s.degree (respond_left s r).z
unfolding respond_served responded_by z_of_respond response_z
z_handed s r h =
    let p = respond_passed s r h in
    let sc = product r.key s.degree r.challenge in
    let g = subtracts (get_or r.words 0 0) in
    let l = length_product r.key s.degree r.challenge in
    rw ((respond_left_lem s r).where_served h) (handed_by s.degree (bit_of_respond s r) (response_of g r.y sc) (record {
      long = length_response g r.y sc (p.y_both ∙ sym l) ∙ l;
      small = response_within g r.y sc p.y_small (product_within r.key s.degree p.key_small r.challenge p.positions.few);
    }))

-- with a challenge that may stand in a record, or without one
stored : (s : Session) (r : Respond) (tells : Bool) (out : List ℕ) → (respond_left s r).responded.answer.refusal ≡ 0 →
    let n = s.degree in
    let z = (respond_left s r).z in
    let f = told n (record { challenge = tells; z1 = true; z2 = true }) r.challenge (take n z) (drop n z) in
    IfGiven (λ (c : List ℕ). is_challenge n c ≡ true) f.challenge → longest n (length (items_of f.challenge)) ≤ length out →
    (write_left f out).written.refusal ≡ 0
unfolding given
stored s r tells out h challenge enough =
    let n = s.degree in
    let z = (respond_left s r).z in
    let f = told n (record { challenge = tells; z1 = true; z2 = true }) r.challenge (take n z) (drop n z) in
    let k = z_handed s r h in
    let halves = halves_right n z k.long k.small in
    let right = is_field_set_lem f (record { degree = (respond_passed s r h).degree; challenge = challenge; z1 = halves.0; z2 = halves.1 }) in
    refusal_is f out ∙ storable_served f (length out) right (le_trans (longest_record f right) enough)

pub responses_are_stored : ResponsesAreStored
unfolding given items_of
responses_are_stored s r out h is enough = stored s r true out h is enough

pub halves_are_stored : HalvesAreStored
unfolding given items_of
halves_are_stored s r out h enough = stored s r false out h tt enough
