use Rattle.line_reader.proofs.Feeds.{feed_is, feed_within}
use Rattle.line_reader.proofs.feed.feed_at.Goals as goal

pub returns-clause-value : goal.returns-clause-value
returns-clause-value c = feed_is c.args.bytes.now c.memchr.result c.memchr.ensures

pub returns-clause-within : goal.returns-clause-within
returns-clause-within c = feed_within c.args.bytes.now c.memchr.result c.memchr.ensures
