-- Names for definitions that are computed together. A proof that unfolds one of these names unfolds all that stands on the name's own
-- `unfolding` line: where a rule gets one more definition, the definition is added here, and no example's proof moves. Assumes nothing.
use Rattle.read_list.specs.Entries.{places_up, places_down, filled_part}
use Rattle.signed.specs.Vectors.{all_within, square_sum, inner_product}
use Rattle.checks.specs.Checks.{among, is_degree, all_below, first_refusal}
use Rattle.exponential.specs.Exponential.{factorial, entries_from as polynomialFrom, polynomial, same_words, is_polynomial}
use Rattle.exponential.specs.Exponential.{reciprocal, scaled, evaluate, squared, squarings, exp_scaled, exp_with, exp, exp_or_refusal}
use Rattle.deviations.specs.Deviations.{is_deviation, exp_at}
use Rattle.bits.specs.Bits.{digits, number, zeros, bit_at as bit_of, bytes_from, packed}
use Rattle.bits.specs.Items.{joined, given, stands, form_if, items_of, passes, items_at, behind, each_at}
use Rattle.largest.specs.Largest.{insert, falling, total, largest_sum}
use Rattle.base_sample.specs.BaseSample.{words_small, never_falls, is_cdt, at_or_below, base_sample}
use Rattle.base_sample.specs.HighWordsFirst.{is_cdt_before, base_sample_before, firsts, seconds, reordered, in_turn, restored}
use Rattle.known_points.specs.EvenThresholds.{steps_from, even_thresholds}
use Rattle.known_points.specs.DefaultCdt.{cdt107, cdt215, cdt250, cdt271}
use Rattle.attempt.specs.Attempt.{accepts, sample, bit_at, sample_at, attempt_entries}
use Rattle.sampler.specs.Draw.{bits_from, draw_bits, accepted, samples_from, draw_y, entries_from, draw_entries, sampled_by}
use Rattle.challenge.specs.Challenge.{positions_below, ascends, are_positions, is_challenge}
use Rattle.challenge_product.specs.Product.{term_at, output_at, outputs_from, product, output_entries, output_entries_from, product_entries}
use Rattle.acceptance.specs.Acceptance.{cosh_passes, all_pass, accepts_by, acceptance_entries}
use Rattle.response.specs.Response.{response_of, response_z, is_bounded, measures_of, response_bit, respond_entries, responded_by}
use Rattle.refusals.specs.Refusals.{open_refusal, draw_refusal, draw_refusal_before, noise_refusal, respond_refusal, respond_refusal_before}
use Rattle.session.specs.Calls.{opened, refusal_of_draw, bits_of_draw, draw_refused, draw_served, draw_left}
use Rattle.session.specs.Calls.{refusal_of_respond, bit_of_respond, z_of_respond, respond_refused, respond_served, respond_left}
use Rattle.record.specs.Record.{value_bits, challenge_bits, map_bits, field_bits, record_of}
use Rattle.record.specs.Lengths.{packed_length}
use Rattle.record.specs.Reading.{value_at, next_value, is_value, positions_at, z1_start, z2_start, fields_end, fields_of, are_fields, is_record}
use Rattle.record.specs.Reading.{field_set_of}
use Rattle.record_writer.specs.Call.{write_refusal, write_left}
use Rattle.record_reader.specs.Call.{contents_of, no_contents, handed_over}
use Rattle.key_check.specs.KeyCheck.{rotation, table, row_sum, final_sum, key_refusal, key_answer}
use Rattle.histories.specs.Histories.{left_by, event_of}

-- the polynomial table, the CDT table of the known points, and those that hosts lend
unfoldable pub tables : Unit {0}
unfolding polynomial polynomialFrom factorial even_thresholds steps_from cdt107 cdt215 cdt250 cdt271
tables = tt

unfoldable pub refusals : Unit {0}
unfolding open_refusal draw_refusal draw_refusal_before respond_refusal respond_refusal_before noise_refusal first_refusal is_degree is_deviation among
    is_cdt is_cdt_before words_small never_falls all_below is_polynomial same_words is_challenge are_positions positions_below ascends all_within
refusals = tt

unfoldable pub exponentials : Unit {0}
unfolding exp exp_at exp_or_refusal exp_with exp_scaled reciprocal scaled evaluate squared squarings
exponentials = tt

-- bits and samples of attempts
unfoldable pub attempts : Unit {0}
unfolding base_sample at_or_below bit_at accepts sample_at sample
attempts = tt

-- the two orders of a CDT table's words
unfoldable pub orders : Unit {0}
unfolding base_sample_before firsts seconds reordered in_turn restored
orders = tt

-- sums of squares and of products
unfoldable pub sums : Unit {0}
unfolding square_sum inner_product
sums = tt

-- the challenge product, responses and their bits
unfoldable pub responses : Unit {0}
unfolding sums product outputs_from output_at term_at response_z response_of response_bit measures_of is_bounded all_within accepts_by all_pass
    cosh_passes
responses = tt

-- the key check
unfoldable pub key_checks : Unit {0}
unfolding responses insert falling total largest_sum rotation table row_sum final_sum key_refusal key_answer
key_checks = tt

-- records, and calls that write and read them
unfoldable pub records : Unit {0}
unfolding digits number zeros bit_of bytes_from packed joined given stands form_if items_of passes items_at behind each_at
    value_bits challenge_bits map_bits field_bits record_of packed_length value_at next_value is_value positions_at z1_start z2_start fields_end fields_of
    are_fields is_record field_set_of write_refusal write_left contents_of no_contents handed_over
records = tt

-- read lists
unfoldable pub lists : Unit {0}
unfolding filled_part draw_entries entries_from attempt_entries respond_entries product_entries output_entries_from output_entries acceptance_entries
    places_up places_down
lists = tt

-- whole calls
unfoldable pub whole_calls : Unit {0}
unfolding tables refusals exponentials attempts responses opened left_by event_of
    draw_left draw_served draw_refused refusal_of_draw bits_of_draw draw_bits bits_from sampled_by accepted draw_y samples_from
    respond_left respond_served respond_refused refusal_of_respond bit_of_respond z_of_respond responded_by
whole_calls = tt
