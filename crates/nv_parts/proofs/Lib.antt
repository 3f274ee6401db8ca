pub mod RestingParts
