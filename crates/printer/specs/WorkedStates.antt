-- States at their bounds, written by cases/make from cases/states.txt.
use Rattle.std.specs.Prelude.{true, false, List, [], ◌∷◌}
use Rattle.printer.specs.Worked.{StateRow, state, sets, columns, channel, gathered, waits, across, down, left, right, page, skip, line, paper_width, spacing, country, outline, chosen}
use Rattle.printer.specs.Types.{Begun, ImageMode, Listing, Move, One, Parameter, Target, Two, Waiting}

unfoldable pub worked_states : List StateRow
worked_states =
    state true (sets down 0 ∷ []) ∷
    state true (sets left 28799 ∷ sets across 28799 ∷ []) ∷
    state false (sets left 28800 ∷ sets across 28800 ∷ []) ∷
    state true (sets right 1 ∷ []) ∷
    state false (sets right 0 ∷ []) ∷
    state false (sets right 28801 ∷ []) ∷
    state true (sets right 28799 ∷ []) ∷
    state true (sets left 360 ∷ sets right 361 ∷ sets across 360 ∷ []) ∷
    state false (sets left 361 ∷ sets right 361 ∷ sets across 361 ∷ []) ∷
    state true (sets left 360 ∷ sets across 360 ∷ []) ∷
    state false (sets left 360 ∷ sets across 359 ∷ []) ∷
    state true (sets left 360 ∷ sets right 720 ∷ sets across 720 ∷ []) ∷
    state false (sets left 360 ∷ sets right 720 ∷ sets across 721 ∷ []) ∷
    state true (sets across 28800 ∷ []) ∷
    state false (sets across 28801 ∷ []) ∷
    state true (sets paper_width 7200 ∷ sets right 7200 ∷ []) ∷
    state false (sets paper_width 7199 ∷ sets right 7199 ∷ []) ∷
    state false (sets paper_width 7200 ∷ sets right 7201 ∷ []) ∷
    state false (sets paper_width 28801 ∷ []) ∷
    state false (sets paper_width 28801 ∷ sets right 28801 ∷ []) ∷
    state false (sets paper_width 28799 ∷ []) ∷
    state true (sets page 3600 ∷ []) ∷
    state false (sets page 3599 ∷ []) ∷
    state true (sets page 79200 ∷ []) ∷
    state false (sets page 79201 ∷ []) ∷
    state true (sets skip 36000 ∷ []) ∷
    state false (sets skip 36001 ∷ []) ∷
    state false (sets skip 39601 ∷ []) ∷
    state true (sets page 3600 ∷ sets skip 0 ∷ []) ∷
    state false (sets page 3600 ∷ sets skip 1 ∷ []) ∷
    state true (sets down 39599 ∷ []) ∷
    state false (sets down 39600 ∷ []) ∷
    state true (sets skip 1000 ∷ sets down 38599 ∷ []) ∷
    state false (sets skip 1000 ∷ sets down 38600 ∷ []) ∷
    state true (sets page 79200 ∷ sets down 79199 ∷ []) ∷
    state false (sets page 79200 ∷ sets down 79200 ∷ []) ∷
    state true (sets line 0 ∷ []) ∷
    state true (sets line 5100 ∷ []) ∷
    state false (sets line 5101 ∷ []) ∷
    state true (sets spacing 127 ∷ []) ∷
    state false (sets spacing 128 ∷ []) ∷
    state true (sets outline 3 ∷ []) ∷
    state false (sets outline 4 ∷ []) ∷
    state true (sets country 13 ∷ []) ∷
    state false (sets country 14 ∷ []) ∷
    state false (sets country 63 ∷ []) ∷
    state true (sets country 64 ∷ []) ∷
    state false (sets country 65 ∷ []) ∷
    state true (columns 0 ([]) ∷ []) ∷
    state true (columns 1 (1 ∷ []) ∷ []) ∷
    state false (columns 1 (0 ∷ []) ∷ []) ∷
    state true (columns 1 (255 ∷ []) ∷ []) ∷
    state false (columns 1 (256 ∷ []) ∷ []) ∷
    state true (
    columns 32 (1 ∷ 2 ∷ 3 ∷ 4 ∷ 5 ∷ 6 ∷ 7 ∷ 8 ∷ 9 ∷ 10 ∷ 11 ∷ 12 ∷ 13 ∷ 14 ∷ 15 ∷ 16 ∷ 17 ∷ 18 ∷ 19 ∷ 20 ∷ 21 ∷ 22 ∷ 23 ∷ 24 ∷ 25 ∷ 26 ∷ 27 ∷ 28 ∷ 29 ∷ 30 ∷
    31 ∷ 32 ∷ []) ∷
    []) ∷
    state false (
    columns 33 (1 ∷ 2 ∷ 3 ∷ 4 ∷ 5 ∷ 6 ∷ 7 ∷ 8 ∷ 9 ∷ 10 ∷ 11 ∷ 12 ∷ 13 ∷ 14 ∷ 15 ∷ 16 ∷ 17 ∷ 18 ∷ 19 ∷ 20 ∷ 21 ∷ 22 ∷ 23 ∷ 24 ∷ 25 ∷ 26 ∷ 27 ∷ 28 ∷ 29 ∷ 30 ∷
    31 ∷ 32 ∷ []) ∷
    []) ∷
    state true (columns 2 (3 ∷ 4 ∷ []) ∷ []) ∷
    state false (columns 2 (3 ∷ 3 ∷ []) ∷ []) ∷
    state false (columns 2 (4 ∷ 3 ∷ []) ∷ []) ∷
    state true (columns 1 (4 ∷ 0 ∷ []) ∷ []) ∷
    state false (
    columns 32 (1 ∷ 2 ∷ 3 ∷ 4 ∷ 5 ∷ 6 ∷ 7 ∷ 8 ∷ 9 ∷ 10 ∷ 11 ∷ 12 ∷ 13 ∷ 14 ∷ 15 ∷ 16 ∷ 17 ∷ 18 ∷ 19 ∷ 20 ∷ 21 ∷ 22 ∷ 23 ∷ 24 ∷ 25 ∷ 26 ∷ 27 ∷ 28 ∷ 29 ∷ 30 ∷
    32 ∷ 32 ∷ []) ∷
    []) ∷
    state true (channel 0 1 ([]) ∷ []) ∷
    state true (channel 7 1 ([]) ∷ []) ∷
    state true (channel 0 0 (600 ∷ []) ∷ []) ∷
    state true (channel 0 2 (1 ∷ []) ∷ []) ∷
    state false (channel 0 2 (0 ∷ []) ∷ []) ∷
    state true (channel 0 2 (79199 ∷ []) ∷ []) ∷
    state false (channel 0 2 (79200 ∷ []) ∷ []) ∷
    state true (channel 7 2 (79199 ∷ []) ∷ []) ∷
    state false (channel 7 2 (79200 ∷ []) ∷ []) ∷
    state true (channel 0 17 (1 ∷ 2 ∷ 3 ∷ 4 ∷ 5 ∷ 6 ∷ 7 ∷ 8 ∷ 9 ∷ 10 ∷ 11 ∷ 12 ∷ 13 ∷ 14 ∷ 15 ∷ 16 ∷ []) ∷ []) ∷
    state false (channel 0 18 (1 ∷ 2 ∷ 3 ∷ 4 ∷ 5 ∷ 6 ∷ 7 ∷ 8 ∷ 9 ∷ 10 ∷ 11 ∷ 12 ∷ 13 ∷ 14 ∷ 15 ∷ 16 ∷ []) ∷ []) ∷
    state true (channel 7 17 (1 ∷ 2 ∷ 3 ∷ 4 ∷ 5 ∷ 6 ∷ 7 ∷ 8 ∷ 9 ∷ 10 ∷ 11 ∷ 12 ∷ 13 ∷ 14 ∷ 15 ∷ 16 ∷ []) ∷ []) ∷
    state false (channel 7 18 (1 ∷ 2 ∷ 3 ∷ 4 ∷ 5 ∷ 6 ∷ 7 ∷ 8 ∷ 9 ∷ 10 ∷ 11 ∷ 12 ∷ 13 ∷ 14 ∷ 15 ∷ 16 ∷ []) ∷ []) ∷
    state false (channel 0 3 (600 ∷ 600 ∷ []) ∷ []) ∷
    state false (channel 7 3 (1200 ∷ 600 ∷ []) ∷ []) ∷
    state true (channel 7 2 (1200 ∷ 600 ∷ []) ∷ []) ∷
    state false (channel 1 2 (0 ∷ []) ∷ []) ∷
    state false (channel 2 2 (0 ∷ []) ∷ []) ∷
    state false (channel 3 2 (0 ∷ []) ∷ []) ∷
    state false (channel 4 2 (0 ∷ []) ∷ []) ∷
    state false (channel 5 2 (0 ∷ []) ∷ []) ∷
    state false (channel 6 2 (0 ∷ []) ∷ []) ∷
    state true (sets chosen 7 ∷ []) ∷
    state false (sets chosen 8 ∷ []) ∷
    state true (gathered 2 (4 ∷ 3 ∷ []) ∷ []) ∷
    state true (
    gathered 40 (0 ∷ 1 ∷ 2 ∷ 3 ∷ 4 ∷ 5 ∷ 6 ∷ 7 ∷ 8 ∷ 9 ∷ 10 ∷ 11 ∷ 12 ∷ 13 ∷ 14 ∷ 15 ∷ 16 ∷ 17 ∷ 18 ∷ 19 ∷ 20 ∷ 21 ∷ 22 ∷ 23 ∷ 24 ∷ 25 ∷ 26 ∷ 27 ∷ 28 ∷ 29 ∷
    30 ∷ 31 ∷ []) ∷
    []) ∷
    state true (waits (Waiting.StopList (Listing.Sets Target.Columns) 0) ∷ gathered 0 ([]) ∷ []) ∷
    state true (waits (Waiting.StopList (Listing.Sets Target.Columns) 255) ∷ gathered 0 ([]) ∷ []) ∷
    state true (waits (Waiting.StopList (Listing.Sets Target.Columns) 5) ∷ gathered 1 (5 ∷ []) ∷ []) ∷
    state false (waits (Waiting.StopList (Listing.Sets Target.Columns) 4) ∷ gathered 1 (5 ∷ []) ∷ []) ∷
    state true (waits (Waiting.StopList (Listing.Sets Target.Columns) 255) ∷ gathered 2 (1 ∷ 255 ∷ []) ∷ []) ∷
    state false (waits (Waiting.StopList (Listing.Sets Target.Columns) 255) ∷ gathered 1 (0 ∷ []) ∷ []) ∷
    state false (waits (Waiting.StopList (Listing.Sets Target.Columns) 255) ∷ gathered 2 (4 ∷ 4 ∷ []) ∷ []) ∷
    state false (waits (Waiting.StopList (Listing.Sets Target.Columns) 255) ∷ gathered 2 (4 ∷ 3 ∷ []) ∷ []) ∷
    state true (waits (Waiting.StopList (Listing.Sets Target.Columns) 255) ∷
    gathered 32 (1 ∷ 2 ∷ 3 ∷ 4 ∷ 5 ∷ 6 ∷ 7 ∷ 8 ∷ 9 ∷ 10 ∷ 11 ∷ 12 ∷ 13 ∷ 14 ∷ 15 ∷ 16 ∷ 17 ∷ 18 ∷ 19 ∷ 20 ∷ 21 ∷ 22 ∷ 23 ∷ 24 ∷ 25 ∷ 26 ∷ 27 ∷ 28 ∷ 29 ∷ 30 ∷
    31 ∷ 32 ∷ []) ∷
    []) ∷
    state false (waits (Waiting.StopList (Listing.Sets Target.Columns) 255) ∷
    gathered 33 (1 ∷ 2 ∷ 3 ∷ 4 ∷ 5 ∷ 6 ∷ 7 ∷ 8 ∷ 9 ∷ 10 ∷ 11 ∷ 12 ∷ 13 ∷ 14 ∷ 15 ∷ 16 ∷ 17 ∷ 18 ∷ 19 ∷ 20 ∷ 21 ∷ 22 ∷ 23 ∷ 24 ∷ 25 ∷ 26 ∷ 27 ∷ 28 ∷ 29 ∷ 30 ∷
    31 ∷ 32 ∷ []) ∷
    []) ∷
    state true (waits (Waiting.StopList (Listing.Sets (Target.Channel 0)) 2) ∷ gathered 2 (600 ∷ 1200 ∷ []) ∷ []) ∷
    state false (waits (Waiting.StopList (Listing.Sets (Target.Channel 0)) 2) ∷ gathered 2 (600 ∷ 1201 ∷ []) ∷ []) ∷
    state true (waits (Waiting.StopList (Listing.Sets (Target.Channel 0)) 127) ∷
    gathered 16 (1 ∷ 2 ∷ 3 ∷ 4 ∷ 5 ∷ 6 ∷ 7 ∷ 8 ∷ 9 ∷ 10 ∷ 11 ∷ 12 ∷ 13 ∷ 14 ∷ 15 ∷ 16 ∷ []) ∷ []) ∷
    state false (waits (Waiting.StopList (Listing.Sets (Target.Channel 0)) 127) ∷
    gathered 17 (1 ∷ 2 ∷ 3 ∷ 4 ∷ 5 ∷ 6 ∷ 7 ∷ 8 ∷ 9 ∷ 10 ∷ 11 ∷ 12 ∷ 13 ∷ 14 ∷ 15 ∷ 16 ∷ 17 ∷ []) ∷ []) ∷
    state true (waits (Waiting.StopList (Listing.Sets (Target.Channel 0)) 255) ∷ gathered 1 (79199 ∷ []) ∷ sets line 600 ∷ []) ∷
    state false (waits (Waiting.StopList (Listing.Sets (Target.Channel 0)) 255) ∷ gathered 1 (79200 ∷ []) ∷ sets line 600 ∷ []) ∷
    state false (waits (Waiting.StopList (Listing.Sets (Target.Channel 0)) 0) ∷ gathered 1 (1 ∷ []) ∷ []) ∷
    state true (waits (Waiting.StopList (Listing.Sets (Target.Channel 0)) 1) ∷ gathered 0 ([]) ∷ sets line 0 ∷ []) ∷
    state false (waits (Waiting.StopList (Listing.Sets (Target.Channel 0)) 1) ∷ gathered 1 (1 ∷ []) ∷ sets line 0 ∷ []) ∷
    state true (waits (Waiting.StopList (Listing.Sets (Target.Channel 7)) 2) ∷ gathered 2 (600 ∷ 1200 ∷ []) ∷ []) ∷
    state false (waits (Waiting.StopList (Listing.Sets (Target.Channel 8)) 2) ∷ gathered 0 ([]) ∷ []) ∷
    state false (waits (Waiting.StopList (Listing.Sets (Target.Channel 7)) 2) ∷ gathered 2 (600 ∷ 1201 ∷ []) ∷ []) ∷
    state true (waits (Waiting.StopList Listing.Dropped 0) ∷ []) ∷
    state true (waits (Waiting.StopList Listing.Dropped 255) ∷ gathered 2 (4 ∷ 3 ∷ []) ∷ []) ∷
    state true (waits (Waiting.StopList Listing.Dropped 0) ∷ gathered 40 (600 ∷ []) ∷ []) ∷
    state true (waits (Waiting.SecondByte) ∷ []) ∷
    state true (waits (Waiting.Arguments (Begun.One (One.Parameter Parameter.Line60ths))) ∷ []) ∷
    state true (waits (Waiting.Arguments (Begun.PageLength)) ∷ []) ∷
    state true (waits (Waiting.Arguments (Begun.PageInches)) ∷ []) ∷
    state true (waits (Waiting.Arguments (Begun.SecondOf (Two.Move Move.Absolute) 255)) ∷ []) ∷
    state true (waits (Waiting.Arguments (Begun.One One.Channel)) ∷ []) ∷
    state true (waits (Waiting.Arguments (Begun.ListChannel)) ∷ []) ∷
    state true (waits (Waiting.Arguments (Begun.Advanced)) ∷ []) ∷
    state true (waits (Waiting.Arguments (Begun.CommandMode)) ∷ []) ∷
    state true (waits (Waiting.Arguments (Begun.ColumnsLow ImageMode.Hex24)) ∷ []) ∷
    state true (waits (Waiting.Arguments (Begun.ColumnsHigh ImageMode.Crt90 255)) ∷ []) ∷
    state true (waits (Waiting.ImageData ImageMode.Single 1 1) ∷ []) ∷
    state false (waits (Waiting.ImageData ImageMode.Single 1 0) ∷ []) ∷
    state true (waits (Waiting.ImageData ImageMode.Crt90 1 65535) ∷ []) ∷
    state false (waits (Waiting.ImageData ImageMode.Crt90 1 65536) ∷ []) ∷
    state false (waits (Waiting.ImageData ImageMode.Single 0 1) ∷ []) ∷
    state false (waits (Waiting.ImageData ImageMode.Double 2 1) ∷ []) ∷
    state false (waits (Waiting.ImageData ImageMode.DoubleSpeed 2 1) ∷ []) ∷
    state false (waits (Waiting.ImageData ImageMode.Quadruple 2 1) ∷ []) ∷
    state false (waits (Waiting.ImageData ImageMode.Crt80 2 1) ∷ []) ∷
    state false (waits (Waiting.ImageData ImageMode.Crt90 2 1) ∷ []) ∷
    state true (waits (Waiting.ImageData ImageMode.Single24 3 1) ∷ []) ∷
    state false (waits (Waiting.ImageData ImageMode.Single24 4 1) ∷ []) ∷
    state true (waits (Waiting.ImageData ImageMode.Double24 3 1) ∷ []) ∷
    state false (waits (Waiting.ImageData ImageMode.Double24 4 1) ∷ []) ∷
    state true (waits (Waiting.ImageData ImageMode.Crt24 3 1) ∷ []) ∷
    state false (waits (Waiting.ImageData ImageMode.Crt24 4 1) ∷ []) ∷
    state true (waits (Waiting.ImageData ImageMode.Triple24 2 65535) ∷ []) ∷
    state false (waits (Waiting.ImageData ImageMode.Triple24 0 1) ∷ []) ∷
    state false (waits (Waiting.ImageData ImageMode.Triple24 4 1) ∷ []) ∷
    state true (waits (Waiting.ImageData ImageMode.Hex24 3 1) ∷ []) ∷
    state false (waits (Waiting.ImageData ImageMode.Hex24 4 1) ∷ []) ∷
    []
