mod CallerLogs
mod PlayedLogs
mod ListedLines
