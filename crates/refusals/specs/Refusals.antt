-- 01, Refusal numbers, and those of 02's requests: each is named here, and nowhere else.
use Rattle.std.specs.Prelude.{ℕ}

-- a bit or byte is needed past the end of the input
abbrev pub past_end : ℕ
past_end = 1

-- a ue(v) code has a zero too many
abbrev pub too_many_zeros : ℕ
too_many_zeros = 2

-- a wrapper byte differs
abbrev pub wrapper_differs : ℕ
wrapper_differs = 3

-- app_identifier is not 1
abbrev pub wrong_identifier : ℕ
wrong_identifier = 4

-- app_version is not 0
abbrev pub wrong_version : ℕ
wrong_version = 5

-- num_ext_blocks is above its limit
abbrev pub too_many_blocks : ℕ
too_many_blocks = 6

-- a zero bit is a one
abbrev pub not_zero : ℕ
not_zero = 7

-- length is not the level's, or, of a reserved level, above 1,023 bytes (02, b: 8, a level that is not 1, 2 or 5, no longer occurs)
abbrev pub wrong_length : ℕ
wrong_length = 9

-- level 1 not in order min ≤ avg ≤ max
abbrev pub not_in_order : ℕ
not_in_order = 10

-- a target_max_PQ already met (02, e: the other repeats are 17, 18 and 19)
abbrev pub repeated_target : ℕ
repeated_target = 11

-- bytes remain after the data
abbrev pub bytes_remain : ℕ
bytes_remain = 12

-- output shorter than needed, or a result table that has not exactly 64 entries
abbrev pub unfit_output : ℕ
unfit_output = 13

-- record to be written or placed is not valid, or block to be converted is not a level 2 block in range
abbrev pub not_valid : ℕ
not_valid = 14

-- a join has more than 64 different numbers
abbrev pub too_many_points : ℕ
too_many_points = 15

-- not a track
abbrev pub not_a_track : ℕ
not_a_track = 16

-- 02, e: second level 1
abbrev pub second_level1 : ℕ
second_level1 = 17

-- 02, e: second level 5
abbrev pub second_level5 : ℕ
second_level5 = 18

-- 02, e: seventeenth level 2
abbrev pub seventeenth_level2 : ℕ
seventeenth_level2 = 19

-- 02, a: a unit shorter than two bytes or above 4,096, first header bit set, temporal id plus one of 0, or another type
abbrev pub wrong_unit : ℕ
wrong_unit = 30

-- 02, a: two zero bytes followed by 00, 01 or 02, or by 03 and then a byte above 03
abbrev pub start_code_inside : ℕ
start_code_inside = 31

-- 02, a: no message at all, a type, size or content that runs past the end, or an end that is not the single byte 80 after a whole message
abbrev pub broken_messages : ℕ
broken_messages = 32

-- 02, a: none of our messages
abbrev pub none_of_ours : ℕ
none_of_ours = 33
