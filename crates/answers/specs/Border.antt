-- Answers of the batches of `slider`, and of `lines`.
use Rattle.std.specs.Prelude.{ℕ, List, [], ◌∷◌, ◌++◌, replicate, Option, Some, None}
use Rattle.slider.specs.Flat.{answer_of}
use Rattle.slider.specs.Batch.{fewest, over, walk_asked, pext_asked, moves_asked}
use Rattle.gen_magic.specs.declared.Record.{Record}
use Rattle.gen_magic.specs.Builds.{no_record}
use Rattle.lines.specs.declared.Query.{Query}
use Rattle.lines.specs.declared.Fed.{Fed}
use Rattle.lines.specs.Line.{query_of}
use Rattle.lines.specs.Stream.{head_line}
use Rattle.lines.specs.Calls.{answered, fresh, fed_of, written, ending}
use Rattle.answers.specs.Tried.{Tried, ◌is◌not◌, one}

abbrev pub query : Option Query → List ℕ
query (Some q) = q.kind ∷ q.square ∷ q.blockers ∷ []
query None = []

-- bytes of a line that has begun, bytes written, bytes taken
abbrev pub fed : Fed → List ℕ
fed x = x.pending.len ∷ x.len ∷ x.used ∷ []

-- B a1 and no blockers
abbrev pub line : List ℕ
line = 66 ∷ 32 ∷ 97 ∷ 49 ∷ 32 ∷ replicate 16 48

-- bishops read slot 1, rooks slot 0
abbrev pub records : List Record
records = replicate 64 (record { multiplier = 1; mask = 0; offset = 1; shift = 52 }) ++ replicate 64 (record { multiplier = 1; mask = 0; offset = 0; shift = 52 })

abbrev pub table : List Tried
table =
    -- a batch answers as many as the longest slice, or none
    (one (fewest 1 2 3 4 5) is one 1 not one 5)
    ∷ (one (fewest 2 1 3 4 5) is one 1 not one 2)
    ∷ (one (fewest 2 3 1 4 5) is one 1 not one 2)
    ∷ (one (fewest 2 3 4 1 5) is one 1 not one 2)
    ∷ (one (fewest 2 3 4 5 1) is one 1 not one 2)
    -- slider_walk_batch: nothing written, the rest cleared
    ∷ (over 1 (λ i. (answer_of (walk_asked (0 ∷ []) (0 ∷ []) (0 ∷ []) i)).value) (5 ∷ 6 ∷ []) is (0x01010101010101FE ∷ 6 ∷ []) not (5 ∷ 6 ∷ []))
    ∷ (over 1 (λ i. (answer_of (walk_asked (0 ∷ []) (0 ∷ []) (0 ∷ []) i)).value) (5 ∷ 6 ∷ []) is (0x01010101010101FE ∷ 6 ∷ []) not (0x01010101010101FE ∷ 0 ∷ []))
    -- slider_pext_moves_batch: no refusal, the other slice's number
    ∷ (over 1 (λ i. (answer_of (pext_asked [] (0 ∷ []) (0 ∷ []) (0 ∷ []) i)).number) (5 ∷ 6 ∷ []) is (9 ∷ 6 ∷ []) not (0 ∷ 6 ∷ []))
    ∷ (over 2 (λ i. (answer_of (pext_asked [] (2 ∷ 0 ∷ []) (0 ∷ 64 ∷ []) (0 ∷ 0 ∷ []) i)).number) (5 ∷ 6 ∷ []) is (1 ∷ 2 ∷ []) not (2 ∷ 1 ∷ []))
    -- slider_moves_batch: the other kind's record, the slot without the rays
    ∷ (over 2 (λ i. (answer_of (moves_asked records (0x102 ∷ 0x3FF ∷ []) (0 ∷ 1 ∷ []) (0 ∷ 0 ∷ []) (0 ∷ 0 ∷ []) i)).value) (5 ∷ 6 ∷ []) is (0x102 ∷ 0x200 ∷ []) not (0x1FE ∷ 0 ∷ []))
    ∷ (over 2 (λ i. (answer_of (moves_asked records (0x102 ∷ 0x3FF ∷ []) (0 ∷ 1 ∷ []) (0 ∷ 0 ∷ []) (0 ∷ 0 ∷ []) i)).value) (5 ∷ 6 ∷ []) is (0x102 ∷ 0x200 ∷ []) not (0x102 ∷ 0x3FF ∷ []))
    -- slider_moves_batch: 7 for a record of zeros, 8 before 1
    ∷ (over 1 (λ i. (answer_of (moves_asked (replicate 128 no_record) [] (0 ∷ []) (0 ∷ []) (0 ∷ []) i)).number) (5 ∷ []) is one 8 not one 7)
    ∷ (over 1 (λ i. (answer_of (moves_asked (replicate 128 no_record) [] (2 ∷ []) (0 ∷ []) (0 ∷ []) i)).number) (5 ∷ []) is one 1 not one 8)
    -- read_line: a bishop for a rook, a line of 22 bytes
    ∷ (query (query_of line) is (1 ∷ 0 ∷ 0 ∷ []) not (0 ∷ 0 ∷ 0 ∷ []))
    ∷ (query (query_of (line ++ (13 ∷ []))) is [] not (1 ∷ 0 ∷ 0 ∷ []))
    -- read_line: a queen, a tab, lower case
    ∷ (query (query_of (81 ∷ 32 ∷ 97 ∷ 49 ∷ 32 ∷ 48 ∷ 48 ∷ 48 ∷ 48 ∷ 48 ∷ 48 ∷ 48 ∷ 48 ∷ 48 ∷ 48 ∷ 48 ∷ 48 ∷ 48 ∷ 48 ∷ 48 ∷ 48 ∷ [])) is [] not (0 ∷ 0 ∷ 0 ∷ []))
    ∷ (query (query_of (82 ∷ 9 ∷ 97 ∷ 49 ∷ 32 ∷ 48 ∷ 48 ∷ 48 ∷ 48 ∷ 48 ∷ 48 ∷ 48 ∷ 48 ∷ 48 ∷ 48 ∷ 48 ∷ 48 ∷ 48 ∷ 48 ∷ 48 ∷ 48 ∷ [])) is [] not (0 ∷ 0 ∷ 0 ∷ []))
    ∷ (query (query_of (82 ∷ 32 ∷ 97 ∷ 49 ∷ 32 ∷ 48 ∷ 48 ∷ 48 ∷ 48 ∷ 48 ∷ 48 ∷ 48 ∷ 48 ∷ 48 ∷ 48 ∷ 48 ∷ 48 ∷ 48 ∷ 48 ∷ 48 ∷ 97 ∷ [])) is [] not (0 ∷ 0 ∷ 10 ∷ []))
    -- answer: `?` for 01's lines, a queen's walk
    ∷ (answered (82 ∷ 32 ∷ 100 ∷ 52 ∷ 32 ∷ 48 ∷ 48 ∷ 48 ∷ 48 ∷ 48 ∷ 56 ∷ 48 ∷ 48 ∷ 48 ∷ 65 ∷ 48 ∷ 48 ∷ 48 ∷ 48 ∷ 48 ∷ 48 ∷ []) 39 is (82 ∷ 32 ∷ 100 ∷ 52 ∷ 32 ∷ 48 ∷ 48 ∷ 48 ∷ 48 ∷ 48 ∷ 56 ∷ 48 ∷ 48 ∷ 48 ∷ 65 ∷ 48 ∷ 48 ∷ 48 ∷ 48 ∷ 48 ∷ 48 ∷ 32 ∷ 48 ∷ 48 ∷ 48 ∷ 48 ∷ 48 ∷ 56 ∷ 48 ∷ 56 ∷ 70 ∷ 54 ∷ 48 ∷ 56 ∷ 48 ∷ 56 ∷ 48 ∷ 56 ∷ 10 ∷ []) not (63 ∷ 10 ∷ []))
    ∷ (answered (66 ∷ 32 ∷ 104 ∷ 49 ∷ 32 ∷ 48 ∷ 48 ∷ 48 ∷ 48 ∷ 48 ∷ 48 ∷ 48 ∷ 48 ∷ 48 ∷ 48 ∷ 48 ∷ 48 ∷ 52 ∷ 48 ∷ 48 ∷ 48 ∷ []) 39 is (66 ∷ 32 ∷ 104 ∷ 49 ∷ 32 ∷ 48 ∷ 48 ∷ 48 ∷ 48 ∷ 48 ∷ 48 ∷ 48 ∷ 48 ∷ 48 ∷ 48 ∷ 48 ∷ 48 ∷ 52 ∷ 48 ∷ 48 ∷ 48 ∷ 32 ∷ 48 ∷ 48 ∷ 48 ∷ 48 ∷ 48 ∷ 48 ∷ 48 ∷ 48 ∷ 48 ∷ 48 ∷ 48 ∷ 48 ∷ 52 ∷ 48 ∷ 48 ∷ 48 ∷ 10 ∷ []) not (63 ∷ 10 ∷ []))
    ∷ (answered (81 ∷ 32 ∷ 97 ∷ 49 ∷ 32 ∷ 48 ∷ 48 ∷ 48 ∷ 48 ∷ 48 ∷ 48 ∷ 48 ∷ 48 ∷ 48 ∷ 48 ∷ 48 ∷ 48 ∷ 48 ∷ 48 ∷ 48 ∷ 48 ∷ []) 39 is (63 ∷ 10 ∷ []) not [])
    -- answer: no line feed, half an answer in a short buffer
    ∷ (answered [] 2 is (63 ∷ 10 ∷ []) not one 63)
    ∷ (answered [] 1 is [] not one 63)
    -- header: no line feed, another number
    ∷ (head_line is (115 ∷ 108 ∷ 105 ∷ 100 ∷ 101 ∷ 114 ∷ 32 ∷ 49 ∷ 10 ∷ []) not (115 ∷ 108 ∷ 105 ∷ 100 ∷ 101 ∷ 114 ∷ 32 ∷ 49 ∷ []))
    ∷ (head_line is (115 ∷ 108 ∷ 105 ∷ 100 ∷ 101 ∷ 114 ∷ 32 ∷ 49 ∷ 10 ∷ []) not (115 ∷ 108 ∷ 105 ∷ 100 ∷ 101 ∷ 114 ∷ 32 ∷ 50 ∷ 10 ∷ []))
    -- start: a line has begun, bytes that are not 0
    ∷ ((fresh.len ∷ fresh.bytes) is (0 ∷ replicate 22 0) not (22 ∷ replicate 22 0))
    ∷ ((fresh.len ∷ fresh.bytes) is (0 ∷ replicate 22 0) not (0 ∷ replicate 22 32))
    -- feed: the line feed is not taken, it begins a line; what it writes
    ∷ (fed (fed_of fresh (10 ∷ []) 46) is (0 ∷ 2 ∷ 1 ∷ []) not (0 ∷ 0 ∷ 0 ∷ []))
    ∷ (fed (fed_of fresh (10 ∷ []) 46) is (0 ∷ 2 ∷ 1 ∷ []) not (1 ∷ 0 ∷ 1 ∷ []))
    ∷ (written fresh (10 ∷ []) is (63 ∷ 10 ∷ []) not [])
    -- finish: an empty last line is answered, a last line is not
    ∷ (ending fresh 100 is [] not (63 ∷ 10 ∷ []))
    ∷ (ending (record { bytes = 81 ∷ replicate 21 0; len = 1 }) 100 is (63 ∷ 10 ∷ []) not [])
    ∷ []
