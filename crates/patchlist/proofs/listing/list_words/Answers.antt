-- `patchlist::listing::list_words` meets its contract: the words of the count are there, and they are those of the bytes.
-- Assumes nothing.
use mathlib.Core.Path.{◌≡◌}
use lib.ListN.{length}
use borrow.Author.Rules.{rules}
use Rattle.patchlist.proofs.Sessions.{words_are, words_wrong, words_right}
use Rattle.patchlist.proofs.listing.list_words.Goals as goal

pub returns-then-behind-count : goal.returns-then-behind-count
returns-then-behind-count c =
    let s = c.args.session.now in
    words_wrong s.table.now s.variables s.patches c.args.behind.now c.args.last.now c.word_count-count.result c.word_count-count.ensures.0
    c.if-behind-count.true

pub returns : goal.returns
returns c =
    let s = c.args.session.now in
    let long : length c.decode.new.words ≡ c.word_count-count.result = search rules in
    let words = words_are c.args.behind.now c.decode.new.words c.word_count-count.result long c.decode.ensures.decoded in
    words_right s.table.now s.variables s.patches c.args.behind.now c.args.last.now
    c.word_count-count.result c.word_count-count.ensures.0 c.if-behind-count.false words c.list_calls.ensures
