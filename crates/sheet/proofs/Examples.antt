-- Whole outputs, computed on the definition. Assumes nothing.
use Prim.Native.Nat.{ℕ}
use mathlib.Core.Path.{◌≡◌, refl}
use mathlib.Core.List.{List, ◌++◌}
use Rattle.basis.specs.Area.{column}
use Rattle.basis.specs.Scan.{every, each, mem, first_from}
use Rattle.text.specs.Bytes.{bytes}
use Rattle.text.specs.Line.{line_by, two_of}
use Rattle.text.specs.File.{lines_from, values_from}
use Rattle.text.specs.Scan.{has_at, run_at, count_at, ident_at, field_at, rest_at}
use Rattle.text.specs.Word.{within}
use Rattle.write.specs.Number.{digits, count_text, signed_text}
use Rattle.graph.specs.Find.{place_from, bisect}
use Rattle.graph.specs.Part.{targets_between, part_of}
use Rattle.graph.specs.Sound.{sound_ids, sound_offsets, sound_side, mirrored, sound_sides, sound_graph}
use Rattle.lists.specs.Files.{edge_test}
use Rattle.load.specs.Load.{arcs_read, lists_read, loaded, outcome_of, load_call}
use Rattle.kernels.specs.Answer.{kernel_says}
use Rattle.bfs.specs.Call.{room_for as bfs-room_for, left_by as bfs-left_by, bfs_call}
use Rattle.bfs.specs.Depth.{ends, ring, ring_depth, depth_of}
use Rattle.wcc.specs.Component.{adjacent, chain, first, label_of}
use Rattle.wcc.specs.Call.{room_for as wcc-room_for, left_by as wcc-left_by, wcc_call}
use Rattle.cdlp.specs.Label.{times, most_times, standing, most_common, smallest, smallest_or, next_label}
use Rattle.cdlp.specs.Call.{good_rounds, room_for as cdlp-room_for, left_by as cdlp-left_by, cdlp_call}
use Rattle.cdlp.specs.Rounds.{around, labels_at, next_at, one_round, rounds, cdlp_of}
use Rattle.lcc.specs.Common.{common_count}
use Rattle.lcc.specs.Lcc.{those, neighbours, arcs_from, coefficient_among, numerator, denominator}
use Rattle.lcc.specs.Call.{room_for as lcc-room_for, left_by as lcc-left_by, lcc_call}
use Rattle.lcc.specs.Ratio.{euclid, gcd_of, lowest}
use Rattle.plan.specs.Jobs.{job_of}
use Rattle.plan.specs.Lines.{lfs, sheet_line, begins, is_word}
use Rattle.plan.specs.Sheet.{mode_of, count_line, lines_past, section, sections, sheet_check}
use Rattle.listing.specs.Listing.{spaced_text, numbers_text, refused_text, head_text, named_text}
use Rattle.listing.specs.Listing.{pair_text, fraction_text, ratio_text, pair_lines, ratio_lines}
use Rattle.sheet.specs.Desk.{plan_text, desk_output}
use Rattle.sheet.specs.Jobs.{bfs_text, wcc_text, cdlp_text, lcc_text, jobs_text}

-- The rules' sheet
abbrev paper_sheet : List ℕ
paper_sheet = bytes "directed\n5\n-3\n2\n5\n9\n20\n5\n2 5\n2 9\n5 2\n5 9\n9 20\n4\nbfs 2\nwcc\ncdlp 2\nlcc\n"

abbrev paper_output : List ℕ
paper_output =
    bytes "bfs 2\n5\n-3 9223372036854775807\n2 0\n5 1\n9 1\n20 2\n"
    ++ (bytes "wcc\n5\n-3 -3\n2 2\n5 2\n9 2\n20 2\n"
    ++ (bytes "cdlp 2\n5\n-3 -3\n2 2\n5 5\n9 2\n20 2\n"
    ++ bytes "lcc\n5\n-3 0/1\n2 1/2\n5 1/2\n9 1/3\n20 0/1\n"))

-- a refused job prints its line alone, and the others go on
abbrev refused_job_sheet : List ℕ
refused_job_sheet = bytes "undirected\n2\n-3\n2\n1\n-3 2\n3\nbfs 7\ncdlp -1\nlcc\n"

abbrev refused_job_output : List ℕ
refused_job_output = bytes "refused 10 0 0 0\nrefused 11 0 0 0\nlcc\n2\n-3 0/1\n2 0/1\n"

-- a refused load prints one line
abbrev refused_load_sheet : List ℕ
refused_load_sheet = bytes "directed\n1\n4\n1\n4 4\n1\nwcc\n"

abbrev refused_load_output : List ℕ
refused_load_output = bytes "refused 5 2 1 0\n"

-- a stray tab behind the second vertex is in column 2 of line 2
abbrev stray_tab_sheet : List ℕ
stray_tab_sheet = bytes "directed\n2\n4\n5\t\n1\n4 5\n1\nwcc\n"

abbrev stray_tab_output : List ℕ
stray_tab_output = bytes "refused 2 1 2 2\n"

-- a refused sheet prints one line
abbrev refused_sheet_sheet : List ℕ
refused_sheet_sheet = bytes "directed\n1\n4\n1\n4 4\n1\nwcd\n"

abbrev refused_sheet_output : List ℕ
refused_sheet_output = bytes "refused 2 4 7 0\n"

-- what the desk program prints for each
pub outputs :
    (desk_output paper_sheet ≡ paper_output)
    × (desk_output refused_job_sheet ≡ refused_job_output)
    × (desk_output refused_load_sheet ≡ refused_load_output)
    × (desk_output stray_tab_sheet ≡ stray_tab_output)
    × (desk_output refused_sheet_sheet ≡ refused_sheet_output)
unfolding column every each mem line_by two_of has_at run_at count_at ident_at field_at rest_at within digits count_text signed_text
    place_from bisect
    targets_between part_of sound_ids sound_offsets sound_side mirrored sound_sides sound_graph edge_test lines_from values_from arcs_read
    lists_read
    loaded
    outcome_of load_call kernel_says bfs-room_for bfs-left_by bfs_call ring_depth ends ring depth_of adjacent chain first_from first
    label_of
    wcc-room_for wcc-left_by
    wcc_call times most_times standing most_common smallest smallest_or next_label good_rounds cdlp-room_for cdlp-left_by cdlp_call around
    labels_at
    next_at one_round rounds cdlp_of common_count those neighbours arcs_from coefficient_among numerator denominator lcc-room_for
    lcc-left_by
    lcc_call euclid
    gcd_of lowest job_of lfs sheet_line begins is_word mode_of count_line lines_past section sections sheet_check spaced_text numbers_text
    refused_text
    head_text named_text pair_text fraction_text ratio_text pair_lines ratio_lines plan_text desk_output bfs_text wcc_text cdlp_text
    lcc_text jobs_text
outputs = (refl, refl, refl, refl, refl)
